use Rattle.std.proofs.Common.{ℕ, length}
use Rattle.respell.specs.inner.FragmentReading.{ReadsBehind}
use Rattle.respell.proofs.FragmentPieces.{IsLeft}
use Rattle.respell.proofs.fragment_reader.FragmentReader.read_waiting.Given as goal

abbrev pub invariant-loop-left : goal.invariant-loop-left
invariant-loop-left l = (count : ℕ) × IsLeft count l.fn.piece l.left × ReadsBehind l.fn.self l.self l.fn.waiting.items l.waiting.items l.fn.piece count

abbrev pub decreases-loop-left : goal.decreases-loop-left
decreases-loop-left l = length l.left
