use Rattle.std.proofs.Common.{◌≡◌, take}
use Rattle.pattern_match.specs.Marks.{IsListed}
use Rattle.pattern_match.proofs.pass.pass_load.Given as goal

-- the marks so far are those of the row
abbrev pub invariant-loop-i : goal.invariant-loop-i
invariant-loop-i l = record {
  listed : IsListed l.code l.marks;
  at : l.marks.at ≡ l.i;
  row : take l.i l.marks.cells ≡ take l.i l.row;
}
