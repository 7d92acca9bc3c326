use Rattle.std.proofs.Common.{arith}
use Rattle.xsd_model.proofs.TypeLemmas.{types_more}
use Rattle.xsd_model.proofs.types.all_types.Goals as goal

pub loop-number-preserved : goal.loop-number-preserved
loop-number-preserved c =
    types_more c.args.model.now c.loop-number.number c.loop-number.types.items c.add_types.new.types.items (omega (arith, c.loop-number-test.true, c.type_count-number-end.ensures.count))
    c.loop-number.invariant c.in_ok-add_types.ensures
