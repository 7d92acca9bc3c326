-- The codes so far went through.
use Rattle.std.proofs.Common.{take, ◌+◌}
use Rattle.std.specs.Prelude.{codes, flat_map}
use Rattle.outside.specs.Pushes.{Pushes}
use Rattle.outside.proofs.Pushing.{done}
use Rattle.xsd_model.specs.SchemaText.{value_facet}
use Rattle.xsd_writer.specs.inner.Segments.{step_level}
use Rattle.xsd_writer.proofs.facet_lines.push_codes.Given as goal

abbrev pub invariant-loop-at : goal.invariant-loop-at
invariant-loop-at g l = Pushes g.O.Sink.held g.O.Sink.faults g.O.Sink.room l.fn.sink l.sink done (flat_map (value_facet (step_level l.steps + 1) (codes "enumeration")) (take l.at l.values))
