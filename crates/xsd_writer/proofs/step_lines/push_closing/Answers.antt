-- The end of the type inside, the facets, and the end of the step.
use Rattle.std.proofs.Common.{◌+◌, refl}
use Rattle.xsd_model.specs.SchemaText.{facets_text}
use Rattle.xsd_writer.proofs.Blocks.{first_stops, second_stops, third_ends}
use Rattle.xsd_writer.specs.inner.Segments.{step_level}
use Rattle.xsd_writer.specs.inner.StepLines.{inner_end, step_end}
use Rattle.xsd_writer.proofs.step_lines.push_closing.Goals as goal

pub returns-in-Err : goal.returns-in-Err
returns-in-Err g c =
    first_stops g.O.Sink.held g.O.Sink.faults g.O.Sink.room (inner_end c.args.steps) (facets_text (step_level c.args.steps + 1) c.args.step.now) (step_end c.args.steps) _ refl _ _ c.in-Err.error c.in-Err.ensures

pub returns-in-Err-push_facets : goal.returns-in-Err-push_facets
returns-in-Err-push_facets g c =
    second_stops g.O.Sink.held g.O.Sink.faults g.O.Sink.room (inner_end c.args.steps) (facets_text (step_level c.args.steps + 1) c.args.step.now) (step_end c.args.steps) _ refl
    _ _ _ c.in-Err-push_facets.error c.in_default.ensures c.in-Err-push_facets.ensures

pub returns : goal.returns
returns g c =
    third_ends g.O.Sink.held g.O.Sink.faults g.O.Sink.room (inner_end c.args.steps) (facets_text (step_level c.args.steps + 1) c.args.step.now) (step_end c.args.steps) _ refl
    _ _ _ _ c.push_end.result c.in_default.ensures c.in_default-push_facets.ensures c.push_end.ensures
