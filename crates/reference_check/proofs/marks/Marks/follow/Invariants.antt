-- Marked objects are reached, and what they refer to is marked or waits.
use Rattle.std.proofs.Common.{◌≡◌, ℕ, List, [], length}
use Rattle.reference_check.specs.Graph.{message}
use Rattle.reference_check.specs.inner.Marking.{AreMarks, LeadsWithin, turns_left}
use Rattle.reference_check.proofs.marks.Marks.follow.Given as goal

abbrev pub invariant-loop-at : goal.invariant-loop-at
invariant-loop-at l = (length l.self.marked.items ≡ length l.repository.objects)
    × ((m : List ℕ) → AreMarks l.repository m [] l.fn.self.marked.items l.fn.self.waiting.items → LeadsWithin l.repository m l.fn.self.marked.items message
    → AreMarks l.repository m [] l.self.marked.items l.self.waiting.items × LeadsWithin l.repository m l.self.marked.items message)

abbrev pub decreases-loop-at : goal.decreases-loop-at
decreases-loop-at l = turns_left l.self
