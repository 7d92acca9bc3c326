-- The rules before the next one are not broken.
use Rattle.std.proofs.Common.{◌-◌}
use Rattle.reference_check.specs.Reached.{HasReach}
use Rattle.reference_check.specs.inner.Told.{IsSoundBelow}
use Rattle.reference_check.proofs.RuleNumbers.{next_number}
use Rattle.reference_check.proofs.structure.refuse_structure.Given as goal

abbrev pub invariant-loop-next : goal.invariant-loop-next
invariant-loop-next l = HasReach l.repository l.message l.reach → IsSoundBelow l.repository l.message 3 → IsSoundBelow l.repository l.message (next_number l.next)

abbrev pub decreases-loop-next : goal.decreases-loop-next
decreases-loop-next l = 11 - next_number l.next
