use Rattle.std.proofs.Common.{◌≡◌, length}
use Rattle.pattern_match.proofs.recall.Recall.find.Given as goal

-- each number is one of a row
abbrev pub invariant-loop-at : goal.invariant-loop-at
invariant-loop-at l = l.at-end ≡ length l.self.rows
