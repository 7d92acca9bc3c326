use Rattle.std.proofs.Common.{◌≡◌, ◌≤◌, drop, length}
use Rattle.pattern_match.specs.Gaps.{gaps}
use Rattle.pattern_match.proofs.gaps.fill_gaps.Given as goal

-- the numbers from here on
abbrev pub invariant-loop-i : goal.invariant-loop-i
invariant-loop-i l = record {
  inside : l.i ≤ length l.code;
  long : length l.gaps ≡ length l.code;
  later : drop l.i l.gaps ≡ gaps (drop l.i l.code);
}

abbrev pub decreases-loop-i : goal.decreases-loop-i
decreases-loop-i l = l.i
