-- Each facet follows those before it.
use Rattle.std.proofs.Common.{◌+◌, ap, arith}
use Rattle.outside.proofs.Rendering.{one_more, one_stops}
use Rattle.xsd_writer.specs.inner.FacetLines.{facet_lines}
use Rattle.xsd_writer.specs.inner.Segments.{step_level}
use Rattle.xsd_writer.proofs.facet_lines.push_each.Goals as goal

pub loop-facet-preserved : goal.loop-facet-preserved
loop-facet-preserved g c =
    let text = facet_lines (step_level c.args.steps + 1) in
    one_more g.O.Sink.held g.O.Sink.faults g.O.Sink.room text c.args.facets.now c.loop-facet.facet-index c.facet-item.result _ _ _ (text c.facet-item.result)
    (omega (arith, c.loop-facet-test.true)) (ap text c.facet-item.is) c.loop-facet.invariant c.in_default.ensures

pub returns-in-Err : goal.returns-in-Err
returns-in-Err g c =
    let text = facet_lines (step_level c.args.steps + 1) in
    one_stops g.O.Sink.held g.O.Sink.faults g.O.Sink.room text c.args.facets.now c.loop-facet.facet-index c.facet-item.result _ _ _ (text c.facet-item.result) c.in-Err.error
    (omega (arith, c.loop-facet-test.true)) (ap text c.facet-item.is) c.loop-facet.invariant c.in-Err.ensures
