use Rattle.std.proofs.Common.{arith}
use Rattle.lexical_core.proofs.Scales.{divide_ten}
use Rattle.lexical_core.proofs.decimal.least.Goals as goal

pub loop-scale-preserved : goal.loop-scale-preserved
loop-scale-preserved c = record {
  same = divide_ten c.loop-scale.size c.loop-scale.scale c.args.size c.args.scale c.loop-scale-test.true c.if-size-eq0.true c.loop-scale.invariant.same;
  size = omega arith;
  scale = omega arith;
}
