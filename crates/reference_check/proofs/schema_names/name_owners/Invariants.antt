-- The owners are those of the objects so far.
use Rattle.std.proofs.Common.{ℕ, List, take}
use Rattle.reference_check.specs.inner.Owners.{owner_of, OwnersAre}
use Rattle.reference_check.specs.Reached.{HasReach}
use Rattle.reference_check.proofs.schema_names.name_owners.Given as goal

abbrev pub invariant-loop-at : goal.invariant-loop-at
invariant-loop-at l = (m : List ℕ) → HasReach l.repository m l.fn.reach → OwnersAre l.repository m (take l.at-index l.fn.reach.objects) (owner_of l.owners)
