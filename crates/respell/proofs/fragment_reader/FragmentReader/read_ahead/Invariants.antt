use Rattle.std.proofs.Common.{◌≡◌, ◌+◌, ◌++◌, [], List, ℕ, length}
use Rattle.markup.specs.Reading.{bytes_taken}
use Rattle.respell.specs.inner.FragmentReading.{HasReadFront, HasReadAll}
use Rattle.respell.proofs.fragment_reader.FragmentReader.read_ahead.Given as goal

abbrev pub invariant-loop-left : goal.invariant-loop-left
invariant-loop-left l = (bytes_taken l.self.reader + length l.left ≡ bytes_taken l.fn.self.reader + length l.fn.piece)
    × ((before : List ℕ) → HasReadAll l.fn.self [] before
    → (front : List ℕ) × (front ++ l.left ≡ before ++ l.fn.piece) × (forgotten : List ℕ) × (forgotten ++ l.uncompared ≡ before ++ l.fn.piece) × HasReadFront l.self front forgotten × (l.self.respell.text ≡ []))

abbrev pub decreases-loop-left : goal.decreases-loop-left
decreases-loop-left l = length l.left
