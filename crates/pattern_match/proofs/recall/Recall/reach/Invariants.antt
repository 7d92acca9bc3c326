use Rattle.std.proofs.Common.{ℕ, ◌<◌, Bool, Some, List, take}
use Rattle.pattern_match.specs.Recall.{marks_behind, IsRightTable, IsRow}
use Rattle.pattern_match.proofs.recall.Recall.reach.Given as goal

-- the marks behind the codes so far
abbrev pub invariant-loop-code : goal.invariant-loop-code
invariant-loop-code l = record {
  few : l.here < 256;
  row : (next : ℕ → List Bool → List Bool) (marks : List Bool) → IsRightTable next l.self → IsRow l.self (Some l.at) marks
      → IsRow l.self (Some l.here) (marks_behind next marks (take l.code-index l.codes));
}
