use Rattle.std.proofs.Common.{ℕ, ◌+◌, List, [], length}
use Rattle.reference_check.specs.inner.FiniteSearch.{AreListed, HoldsReached, IsSearch, open_marks}
use Rattle.reference_check.proofs.finite.Marking.settle.Given as goal

-- the search is one all along
abbrev pub invariant-loop-place : goal.invariant-loop-place
invariant-loop-place l = (m places : List ℕ) → AreListed l.repository.objects l.users places → HoldsReached l.repository m places → IsSearch l.repository m l.fn.self.marks.items l.fn.self.untold.items [] → IsSearch l.repository m l.self.marks.items l.self.untold.items []

abbrev pub decreases-loop-place : goal.decreases-loop-place
decreases-loop-place l = open_marks l.self.marks.items + length l.self.untold.items
