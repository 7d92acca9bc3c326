-- The names so far have their owner.
use Rattle.std.proofs.Common.{◌≡◌, ℕ, List, Some, take}
use Rattle.std.specs.Bool.{if◌then◌else◌}
use Rattle.std.specs.List.{list_any}
use Rattle.std.specs.Str.{bytes_eq}
use Rattle.reference_check.specs.inner.Owners.{owner_of}
use Rattle.reference_check.proofs.schema_names.own_names.Given as goal

abbrev pub invariant-loop-name : goal.invariant-loop-name
invariant-loop-name l = (q : List ℕ) → owner_of l.owners q ≡ (if list_any (bytes_eq q) (take l.name-index l.names) then Some l.rank else owner_of l.initial.owners q)
