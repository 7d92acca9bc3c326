use Rattle.std.proofs.Common.{◌≡◌, take, vec_capacity}
use Rattle.inst_pool.proofs.numbers.copy.Given as goal

abbrev pub invariant-loop-number : goal.invariant-loop-number
invariant-loop-number l = (l.wide.items ≡ take l.number-index l.fn.narrow) × (vec_capacity l.wide ≡ vec_capacity l.fn.wide)
