use Rattle.std.proofs.Common.{◌++◌}
use Rattle.outside.proofs.Pushing.{then_push, fails_push}
use Rattle.asn1_writer.proofs.within.push_named.Goals as goal

pub returns-in-Err : goal.returns-in-Err
returns-in-Err g c =
    fails_push g.O.Sink.held g.O.Sink.faults g.O.Sink.room _ _ c.in-Err.error c.args.name.now (c.args.before.now ++ (g.T.Render.rendered c.args.inner.now ++ c.args.behind.now)) c.in-Err.ensures.push

pub returns : goal.returns
returns g c =
    then_push g.O.Sink.held g.O.Sink.faults g.O.Sink.room _ _ _ c.push_within.result c.args.name.now (c.args.before.now ++ (g.T.Render.rendered c.args.inner.now ++ c.args.behind.now)) c.in_default.ensures.push
    c.push_within.ensures
