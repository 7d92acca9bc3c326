-- A line where there are no facets; else the first line, the facets, and the end of the step.
use Rattle.std.proofs.Common.{◌≡◌, ◌+◌, ◌∙◌, codes, sym, true}
use Rattle.xsd_model.specs.SchemaText.{facets_text, has_facets}
use Rattle.xsd_writer.proofs.Blocks.{first_stops, second_stops, third_ends}
use Rattle.xsd_writer.proofs.Lines.{first_some}
use Rattle.xsd_writer.specs.inner.Segments.{step_level}
use Rattle.xsd_writer.specs.inner.StepLines.{step_end, step_start}
use Rattle.xsd_writer.proofs.step_lines.push_first.Goals as goal

pub returns-in-Err : goal.returns-in-Err
returns-in-Err g c =
    let step = c.args.step.now in
    let steps = c.args.steps in
    let some : has_facets step ≡ true = sym c.has_facets.ensures ∙ c.if-not-has_facets.false in
    first_stops g.O.Sink.held g.O.Sink.faults g.O.Sink.room (step_start steps step.base (codes ">\n")) (facets_text (step_level steps + 1) step) (step_end steps) _ (first_some steps step some) _ _ c.in-Err.error c.in-Err.ensures

pub returns-in-Err-push_facets : goal.returns-in-Err-push_facets
returns-in-Err-push_facets g c =
    let step = c.args.step.now in
    let steps = c.args.steps in
    let some : has_facets step ≡ true = sym c.has_facets.ensures ∙ c.if-not-has_facets.false in
    second_stops g.O.Sink.held g.O.Sink.faults g.O.Sink.room (step_start steps step.base (codes ">\n")) (facets_text (step_level steps + 1) step) (step_end steps) _ (first_some steps step some) _ _ _ c.in-Err-push_facets.error c.in_default.ensures c.in-Err-push_facets.ensures

pub returns : goal.returns
returns g c =
    let step = c.args.step.now in
    let steps = c.args.steps in
    let some : has_facets step ≡ true = sym c.has_facets.ensures ∙ c.if-not-has_facets.false in
    third_ends g.O.Sink.held g.O.Sink.faults g.O.Sink.room (step_start steps step.base (codes ">\n")) (facets_text (step_level steps + 1) step) (step_end steps) _ (first_some steps step some) _ _ _ _ c.push_end.result c.in_default.ensures c.in_default-push_facets.ensures c.push_end.ensures
