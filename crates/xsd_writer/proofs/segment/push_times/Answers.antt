-- Each text follows those before it.
use Rattle.std.proofs.Common.{arith}
use Rattle.xsd_writer.proofs.NumberedTexts.{number_more, number_stops}
use Rattle.xsd_writer.proofs.segment.push_times.Goals as goal

pub loop-time-preserved : goal.loop-time-preserved
loop-time-preserved g c =
    number_more g.O.Sink.held g.O.Sink.faults g.O.Sink.room (λ _. c.args.text.now) c.loop-time._time _ _ _ c.loop-time.invariant c.in_default.ensures.push

pub returns-in-Err : goal.returns-in-Err
returns-in-Err g c =
    number_stops g.O.Sink.held g.O.Sink.faults g.O.Sink.room (λ _. c.args.text.now) c.loop-time._time c.args.times _ _ _ c.in-Err.error (omega (arith, c.loop-time-test.true))
    c.loop-time.invariant c.in-Err.ensures.push
