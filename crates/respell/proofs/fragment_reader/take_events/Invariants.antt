use Rattle.std.proofs.Common.{◌≡◌, ◌++◌, ℕ, List, length}
use Rattle.std.specs.List.{AllByRecursion}
use Rattle.lexical_core.specs.Tree.{Item}
use Rattle.respell.specs.Respelling.{HasSortedAttributes}
use Rattle.respell.specs.Kept.{HasWritten}
use Rattle.respell.specs.inner.FragmentReading.{NoneForeign, event_items}
use Rattle.respell.proofs.fragment_reader.take_events.Given as goal

abbrev pub invariant-loop-event : goal.invariant-loop-event
invariant-loop-event l = (forgotten : List ℕ) (items : List Item) → HasWritten l.fn.respell forgotten items → NoneForeign 0 items → AllByRecursion HasSortedAttributes (event_items l.fn.events)
    → (front : List Item) × (front ++ event_items l.left ≡ event_items l.fn.events) × HasWritten l.respell forgotten (items ++ front) × NoneForeign 0 (items ++ front)

abbrev pub decreases-loop-event : goal.decreases-loop-event
decreases-loop-event l = length l.left
