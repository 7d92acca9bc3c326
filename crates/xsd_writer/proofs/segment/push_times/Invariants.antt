-- The texts so far went through.
use Rattle.outside.specs.Pushes.{Pushes}
use Rattle.outside.proofs.Pushing.{done}
use Rattle.xsd_writer.specs.inner.NumberedTexts.{texts_below}
use Rattle.xsd_writer.proofs.segment.push_times.Given as goal

abbrev pub invariant-loop-time : goal.invariant-loop-time
invariant-loop-time g l = Pushes g.O.Sink.held g.O.Sink.faults g.O.Sink.room l.fn.sink l.sink done (texts_below (λ _. l.text) l._time)
