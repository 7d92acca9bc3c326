use Rattle.reference_check.proofs.SearchAnswers.{AreBlocked}
use Rattle.reference_check.proofs.finite.has_free.Given as goal

-- no element so far is free
abbrev pub invariant-loop-element : goal.invariant-loop-element
invariant-loop-element l = AreBlocked l.repository.objects l.marks l.elements l.element-index
