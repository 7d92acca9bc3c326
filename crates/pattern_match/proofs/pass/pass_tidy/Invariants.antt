use Rattle.std.proofs.Common.{◌≡◌, ◌-◌, length}
use Rattle.pattern_match.specs.Marks.{IsListed}
use Rattle.pattern_match.proofs.pass.pass_tidy.Given as goal

-- the marks are as they were
abbrev pub invariant-loop-marks : goal.invariant-loop-marks
invariant-loop-marks l = record {
  listed : IsListed l.code l.marks;
  cells : l.marks.cells ≡ l.initial.marks.cells;
}

abbrev pub decreases-loop-marks : goal.decreases-loop-marks
decreases-loop-marks l = length l.code - l.marks.at
