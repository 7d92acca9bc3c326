use Rattle.std.proofs.Common.{◌-◌, length}
use Rattle.pattern_match.specs.Marks.{Starts}
use Rattle.pattern_match.proofs.pass.pass_start.Given as goal

-- the marks so far are as the first are
abbrev pub invariant-loop-marks : goal.invariant-loop-marks
invariant-loop-marks l = Starts l.code l.first l.marks

abbrev pub decreases-loop-marks : goal.decreases-loop-marks
decreases-loop-marks l = length l.code - l.marks.at
