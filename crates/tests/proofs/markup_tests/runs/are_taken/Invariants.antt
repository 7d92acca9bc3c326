-- The reader has taken no more than is given to it.
use Rattle.std.proofs.Common.{◌≤◌, ◌+◌, length}
use Rattle.markup.specs.Reading.{bytes_taken}
use Rattle.tests.proofs.markup_tests.runs.are_taken.Given as goal

abbrev pub invariant-loop-byte : goal.invariant-loop-byte
invariant-loop-byte l = bytes_taken l.reader + length l.rest ≤ 100

abbrev pub decreases-loop-byte : goal.decreases-loop-byte
decreases-loop-byte l = length l.rest
