use Rattle.std.proofs.Common.{◌≡◌, ◌≤◌, ◌-◌, [], length}
use Rattle.pattern_match.specs.Marking.{second_pass}
use Rattle.pattern_match.specs.Marks.{IsListed, second_rest}
use Rattle.pattern_match.proofs.pass.pass_second.Given as goal

-- the marks so far, and what the pass makes of those that are left
abbrev pub invariant-loop-marks : goal.invariant-loop-marks
invariant-loop-marks l = record {
  listed : IsListed l.code l.marks;
  rest : second_rest l.code l.marks l.flow.live l.flow.frames ≡ second_pass l.code l.initial.marks.cells l.initial.flow.live [];
  depth : length l.flow.frames ≤ l.marks.at;
  capacity : length l.code ≤ l.flow.capacity;
  grows : l.initial.flow.capacity ≤ l.flow.capacity;
}

abbrev pub decreases-loop-marks : goal.decreases-loop-marks
decreases-loop-marks l = length l.code - l.marks.at
