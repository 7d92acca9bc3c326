use Rattle.std.proofs.Common.{take, ◌≡◌}
use Rattle.lexical_core.proofs.same_bytes.are_same_by_one.Given as goal

abbrev pub invariant-loop-at : goal.invariant-loop-at
invariant-loop-at l = take l.at l.left ≡ take l.at l.right
