-- Each step's lines follow those before it.
use Rattle.std.proofs.Common.{arith}
use Rattle.xsd_writer.specs.inner.StepLines.{opening_lines}
use Rattle.xsd_writer.proofs.NumberedTexts.{number_more, number_stops}
use Rattle.xsd_writer.proofs.step_lines.push_openings.Goals as goal

pub loop-steps-preserved : goal.loop-steps-preserved
loop-steps-preserved g c = number_more g.O.Sink.held g.O.Sink.faults g.O.Sink.room opening_lines c.loop-steps.steps _ _ _ c.loop-steps.invariant c.in_default.ensures

pub returns-in-Err : goal.returns-in-Err
returns-in-Err g c =
    number_stops g.O.Sink.held g.O.Sink.faults g.O.Sink.room opening_lines c.loop-steps.steps c.args.count _ _ _ c.in-Err.error (omega (arith, c.loop-steps-test.true)) c.loop-steps.invariant c.in-Err.ensures
