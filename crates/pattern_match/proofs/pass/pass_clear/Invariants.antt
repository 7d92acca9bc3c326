use Rattle.std.proofs.Common.{◌≡◌, ◌-◌, false, length, take, replicate}
use Rattle.pattern_match.specs.Marks.{IsListed}
use Rattle.pattern_match.proofs.pass.pass_clear.Given as goal

-- none of the marks so far is set
abbrev pub invariant-loop-marks : goal.invariant-loop-marks
invariant-loop-marks l = record {
  listed : IsListed l.code l.marks;
  clear : take l.marks.at l.marks.cells ≡ replicate l.marks.at false;
}

abbrev pub decreases-loop-marks : goal.decreases-loop-marks
decreases-loop-marks l = length l.code - l.marks.at
