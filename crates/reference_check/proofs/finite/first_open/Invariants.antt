use Rattle.reference_check.proofs.SearchAnswers.{NoneOpen}
use Rattle.reference_check.proofs.finite.first_open.Given as goal

-- none so far is open
abbrev pub invariant-loop-at : goal.invariant-loop-at
invariant-loop-at l = NoneOpen l.marks l.at
