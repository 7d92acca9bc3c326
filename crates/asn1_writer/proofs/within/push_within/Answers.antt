use Rattle.std.proofs.Common.{◌++◌}
use Rattle.outside.proofs.Pushing.{then_push, fails_push, stopped}
use Rattle.asn1_writer.proofs.within.push_within.Goals as goal

pub returns-in-Err : goal.returns-in-Err
returns-in-Err g c = fails_push g.O.Sink.held g.O.Sink.faults g.O.Sink.room _ _ c.in-Err.error c.args.before.now (g.T.Render.rendered c.args.inner.now ++ c.args.behind.now) c.in-Err.ensures.push

pub returns-in-Err-render : goal.returns-in-Err-render
returns-in-Err-render g c =
    then_push g.O.Sink.held g.O.Sink.faults g.O.Sink.room _ _ _ (stopped c.in-Err-render.error) c.args.before.now (g.T.Render.rendered c.args.inner.now ++ c.args.behind.now) c.in_default.ensures.push
    (fails_push g.O.Sink.held g.O.Sink.faults g.O.Sink.room _ _ c.in-Err-render.error (g.T.Render.rendered c.args.inner.now) c.args.behind.now c.in-Err-render.ensures)

pub returns : goal.returns
returns g c =
    then_push g.O.Sink.held g.O.Sink.faults g.O.Sink.room _ _ _ c.push_bytes-2.result c.args.before.now (g.T.Render.rendered c.args.inner.now ++ c.args.behind.now) c.in_default.ensures.push
    (then_push g.O.Sink.held g.O.Sink.faults g.O.Sink.room _ _ _ c.push_bytes-2.result (g.T.Render.rendered c.args.inner.now) c.args.behind.now c.in_default-render.ensures c.push_bytes-2.ensures.push)
