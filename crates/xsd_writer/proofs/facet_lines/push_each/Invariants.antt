-- The facets so far went through.
use Rattle.std.proofs.Common.{take, ◌+◌}
use Rattle.std.specs.Prelude.{flat_map}
use Rattle.outside.specs.Pushes.{Pushes}
use Rattle.outside.proofs.Pushing.{done}
use Rattle.xsd_writer.specs.inner.FacetLines.{facet_lines}
use Rattle.xsd_writer.specs.inner.Segments.{step_level}
use Rattle.xsd_writer.proofs.facet_lines.push_each.Given as goal

abbrev pub invariant-loop-facet : goal.invariant-loop-facet
invariant-loop-facet g l = Pushes g.O.Sink.held g.O.Sink.faults g.O.Sink.room l.fn.sink l.sink done (flat_map (facet_lines (step_level l.steps + 1)) (take l.facet-index l.facets))
