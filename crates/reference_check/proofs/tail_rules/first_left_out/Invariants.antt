-- None of the objects so far is left out.
use Rattle.std.proofs.Common.{ℕ, List, take}
use Rattle.reference_check.specs.inner.Ranks.{NoneBreaks}
use Rattle.reference_check.specs.Reached.{HasReach}
use Rattle.reference_check.specs.Rules.{LeftOutKind}
use Rattle.reference_check.proofs.tail_rules.first_left_out.Given as goal

abbrev pub invariant-loop-at : goal.invariant-loop-at
invariant-loop-at l = (m : List ℕ) → HasReach l.repository m l.fn.reach → NoneBreaks l.repository m LeftOutKind (take l.at-index l.fn.reach.objects)
