-- The patterns so far went through.
use Rattle.std.proofs.Common.{take, ◌+◌}
use Rattle.std.specs.Prelude.{codes, flat_map}
use Rattle.outside.specs.Pushes.{Pushes}
use Rattle.outside.proofs.Pushing.{done}
use Rattle.xsd_model.specs.SchemaText.{value_facet}
use Rattle.xsd_writer.specs.inner.Segments.{step_level}
use Rattle.xsd_writer.proofs.facet_lines.push_patterns.Given as goal

abbrev pub invariant-loop-value : goal.invariant-loop-value
invariant-loop-value g l = Pushes g.O.Sink.held g.O.Sink.faults g.O.Sink.room l.fn.sink l.sink done (flat_map (value_facet (step_level l.steps + 1) (codes "pattern")) (take l.value-index l.values))
