-- Each text follows those before it.
use Rattle.std.proofs.Common.{arith, ap}
use Rattle.outside.proofs.Rendering.{one_more, one_stops, all_went}
use Rattle.outside.proofs.render.render_all.Goals as goal

pub loop-text-preserved : goal.loop-text-preserved
loop-text-preserved g c =
    one_more g.O.Sink.held g.O.Sink.faults g.O.Sink.room g.T.Render.rendered c.args.texts.now c.loop-text.text-index c.text-item.result _ _ _ (g.T.Render.rendered c.text-item.result)
    (omega (arith, c.loop-text-test.true)) (ap g.T.Render.rendered c.text-item.is) c.loop-text.invariant c.in_default.ensures

pub returns-in-Err : goal.returns-in-Err
returns-in-Err g c =
    one_stops g.O.Sink.held g.O.Sink.faults g.O.Sink.room g.T.Render.rendered c.args.texts.now c.loop-text.text-index c.text-item.result _ _ _ (g.T.Render.rendered c.text-item.result) c.in-Err.error
    (omega (arith, c.loop-text-test.true)) (ap g.T.Render.rendered c.text-item.is) c.loop-text.invariant c.in-Err.ensures

pub returns : goal.returns
returns g c = all_went g.O.Sink.held g.O.Sink.faults g.O.Sink.room g.T.Render.rendered c.args.texts.now c.loop-text.text-index _ _ (omega (arith, c.loop-text-test.false)) c.loop-text.invariant
