-- Each step leaves one event less.
use Rattle.std.proofs.Common.{length}
use Rattle.tests.proofs.markup_tests.pieces.innermost.Given as goal

abbrev pub decreases-loop-event : goal.decreases-loop-event
decreases-loop-event l = length l.left
