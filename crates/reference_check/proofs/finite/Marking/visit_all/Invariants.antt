use Rattle.std.proofs.Common.{ℕ, ◌+◌, ◌≤◌, List, length, drop}
use Rattle.reference_check.specs.inner.FiniteSearch.{IsSearch, open_marks}
use Rattle.reference_check.proofs.finite.Marking.visit_all.Given as goal

-- the other places are still to be looked at
abbrev pub invariant-loop-place : goal.invariant-loop-place
invariant-loop-place l = ((m : List ℕ) → IsSearch l.repository m l.fn.self.marks.items l.fn.self.untold.items l.places → IsSearch l.repository m l.self.marks.items l.self.untold.items (drop l.place-index l.places))
    × (open_marks l.self.marks.items + length l.self.untold.items ≤ open_marks l.fn.self.marks.items + length l.fn.self.untold.items)
