use Rattle.reference_check.specs.inner.FiniteSearch.{AreFree}
use Rattle.reference_check.proofs.finite.first_blocked.Given as goal

-- the elements so far are free
abbrev pub invariant-loop-at : goal.invariant-loop-at
invariant-loop-at l = AreFree l.repository.objects l.marks l.elements l.from l.at
