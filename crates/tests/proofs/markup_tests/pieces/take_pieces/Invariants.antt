-- The reader has taken no more than is given to it.
use Rattle.std.proofs.Common.{◌≤◌, ◌+◌, ◌^◌, length}
use Rattle.markup.specs.Reading.{bytes_taken}
use Rattle.tests.proofs.markup_tests.pieces.take_pieces.Given as goal

abbrev pub invariant-loop-rest : goal.invariant-loop-rest
invariant-loop-rest l = bytes_taken l.reader + length l.rest ≤ 2 ^ 40

abbrev pub decreases-loop-rest : goal.decreases-loop-rest
decreases-loop-rest l = length l.rest
