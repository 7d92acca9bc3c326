-- The numbers so far and those that are left, the last one first, are those of both at first.
use Rattle.std.proofs.Common.{◌≡◌, ◌+◌, ◌≤◌, ◌++◌, length, reverse, vec_capacity}
use Rattle.inst_pool.proofs.numbers.copy_back.Given as goal

abbrev pub invariant-loop-last : goal.invariant-loop-last
invariant-loop-last l = record {
  items : l.wide.items ++ reverse l.left ≡ l.fn.wide.items ++ reverse l.fn.narrow;
  fits : length l.wide.items + length l.left ≤ vec_capacity l.fn.wide;
  room : vec_capacity l.wide ≡ vec_capacity l.fn.wide;
}

abbrev pub decreases-loop-last : goal.decreases-loop-last
decreases-loop-last l = length l.left
