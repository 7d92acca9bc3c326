-- The ends of the steps so far went through.
use Rattle.std.proofs.Common.{length}
use Rattle.outside.proofs.PushedFronts.{IsPushedTo}
use Rattle.xsd_writer.specs.inner.StepLines.{closings}
use Rattle.xsd_writer.proofs.step_lines.push_closings.Given as goal

abbrev pub invariant-loop-step : goal.invariant-loop-step
invariant-loop-step g l = IsPushedTo g.O.Sink.held g.O.Sink.faults g.O.Sink.room l.fn.sink l.sink (closings l.fn.later) (closings l.left)

abbrev pub decreases-loop-step : goal.decreases-loop-step
decreases-loop-step g l = length l.left
