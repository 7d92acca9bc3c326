-- Each text follows those before it.
use Rattle.std.proofs.Common.{arith, ap}
use Rattle.outside.proofs.Rendering.{one_more, one_stops}
use Rattle.asn1_model.specs.ModuleText.{asn_type_text}
use Rattle.asn1_writer.proofs.writer.push_types.Goals as goal

pub loop-one-preserved : goal.loop-one-preserved
loop-one-preserved g c =
    one_more g.O.Sink.held g.O.Sink.faults g.O.Sink.room asn_type_text c.args.types.now c.loop-one.one-index c.one-item.result _ _ _ (asn_type_text c.one-item.result)
    (omega (arith, c.loop-one-test.true)) (ap asn_type_text c.one-item.is) c.loop-one.invariant c.in_default.ensures

pub returns-in-Err : goal.returns-in-Err
returns-in-Err g c =
    one_stops g.O.Sink.held g.O.Sink.faults g.O.Sink.room asn_type_text c.args.types.now c.loop-one.one-index c.one-item.result _ _ _ (asn_type_text c.one-item.result) c.in-Err.error
    (omega (arith, c.loop-one-test.true)) (ap asn_type_text c.one-item.is) c.loop-one.invariant c.in-Err.ensures
