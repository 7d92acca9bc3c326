use Rattle.std.proofs.Common.{arith}
use Rattle.lexical_core.proofs.Written.{without_zero, few_zeros, digits_room, part_small}
use Rattle.lexical_core.proofs.real.without_zeros.Goals as goal

pub loop-size-preserved : goal.loop-size-preserved
loop-size-preserved c = record {
  same = without_zero c.loop-size.size c.args.size c.loop-size.zeros c.loop-size.invariant.same c.loop-size-test.true;
  some = let some = c.loop-size.invariant.some in let whole = c.loop-size-test.true in omega arith;
}

pub returns-clause-few : goal.returns-clause-few
returns-clause-few c = few_zeros c.loop-size.size c.args.size c.loop-size.zeros c.loop-size.invariant.same c.loop-size.invariant.some c.requires.small

pub returns-clause-room : goal.returns-clause-room
returns-clause-room c = digits_room c.loop-size.size (part_small c.loop-size.size c.args.size c.loop-size.zeros c.loop-size.invariant.same c.requires.small)
