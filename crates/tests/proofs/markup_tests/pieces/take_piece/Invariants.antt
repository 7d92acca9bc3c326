-- The reader has taken what is no longer left of the piece.
use Rattle.std.proofs.Common.{◌≡◌, ◌+◌, length}
use Rattle.markup.specs.Reading.{bytes_taken}
use Rattle.tests.proofs.markup_tests.pieces.take_piece.Given as goal

abbrev pub invariant-loop-rest : goal.invariant-loop-rest
invariant-loop-rest l = bytes_taken l.reader + length l.rest ≡ bytes_taken l.fn.reader + length l.fn.piece

abbrev pub decreases-loop-rest : goal.decreases-loop-rest
decreases-loop-rest l = length l.rest
