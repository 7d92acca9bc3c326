use Rattle.std.proofs.Common.{◌*◌, ◌<◌, arith}
use Rattle.std.specs.Prelude.{bit_or}
use Rattle.std.proofs.lemmas.Bool.Decides.{nat_tests}
use Rattle.std.proofs.lemmas.Nat.{le_or_l, le_or_r}
use Rattle.inst_pool.proofs.node.is_short.Goals as goal

pub returns : goal.returns
returns c = λ small.
    let slot = le_or_l (c.args.edge.slot * 16) c.args.edge.target in
    let target = le_or_r (c.args.edge.slot * 16) c.args.edge.target in
    let both = le_or_l (bit_or (c.args.edge.slot * 16) c.args.edge.target) c.args.edge.parent in
    let parent = le_or_r (bit_or (c.args.edge.slot * 16) c.args.edge.target) c.args.edge.parent in
    let all : bit_or (bit_or (c.args.edge.slot * 16) c.args.edge.target) c.args.edge.parent < 2048 = grind (arith, nat_tests) in
    (omega (arith, slot, both, all), omega (arith, target, both, all), omega (arith, parent, all))
