-- None of the names so far clashes.
use Rattle.std.proofs.Common.{◌≡◌, ◌≢◌, ◌⊎◌, Some}
use Rattle.std.specs.Prelude.{codes}
use Rattle.reference_check.specs.inner.Owners.{owner_of}
use Rattle.reference_check.proofs.Lists.{NoneBefore}
use Rattle.reference_check.proofs.schema_names.has_clash.Given as goal

abbrev pub invariant-loop-name : goal.invariant-loop-name
invariant-loop-name l = NoneBefore (λ name. (name ≡ codes "Document") ⊎ (owner_of l.owners name ≢ Some l.rank)) l.names l.name-index
