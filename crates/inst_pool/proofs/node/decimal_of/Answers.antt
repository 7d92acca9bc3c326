-- The number is the only one with this whole part and this scale.
use Rattle.std.proofs.Common.{arith}
use mir.Syntax.{w64}
use Rattle.std.proofs.lemmas.Int.{to_z_pos}
use Rattle.lexical_core.proofs.DecimalLaws.{one_number}
use Rattle.lexical_core.proofs.Written.{number_itself}
use Rattle.inst_pool.specs.inner.Nodes.{decimal_of}
use Rattle.inst_pool.proofs.node.decimal_of.Goals as goal

pub unreachable-requires : goal.unreachable-requires
unreachable-requires c =
    let fits = c.ranges.whole in
    let is = to_z_pos w64 c.args.whole (omega (arith, fits)) in
    let number = decimal_of c.args.whole c.args.scale in c.in_default.ensures.none number c.requires (rw is (number_itself number))

pub returns : goal.returns
returns c =
    let fits = c.ranges.whole in
    let is = to_z_pos w64 c.args.whole (omega (arith, fits)) in
    let number = decimal_of c.args.whole c.args.scale in one_number _ _ _ _ number c.in-Some.ensures.decimal c.requires c.in-Some.ensures.number (rw is (number_itself number))
