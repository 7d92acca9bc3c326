-- The lines so far went through.
use Rattle.outside.specs.Pushes.{Pushes}
use Rattle.outside.proofs.Pushing.{done}
use Rattle.xsd_writer.specs.inner.NumberedTexts.{texts_below}
use Rattle.xsd_writer.specs.inner.StepLines.{opening_lines}
use Rattle.xsd_writer.proofs.step_lines.push_openings.Given as goal

abbrev pub invariant-loop-steps : goal.invariant-loop-steps
invariant-loop-steps g l = Pushes g.O.Sink.held g.O.Sink.faults g.O.Sink.room l.fn.sink l.sink done (texts_below opening_lines l.steps)
