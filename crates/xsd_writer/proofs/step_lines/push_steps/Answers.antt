-- What the later steps begin with, the step with the base, and what they end with.
use Rattle.std.proofs.Common.{◌≡◌, ◌∷◌, ◌∙◌, length, sym}
use Rattle.xsd_model.specs.SchemaText.{first_text}
use Rattle.xsd_writer.proofs.Blocks.{first_stops, second_stops, third_ends}
use Rattle.xsd_writer.proofs.NestedSteps.{steps_are}
use Rattle.xsd_writer.specs.inner.NumberedTexts.{texts_below}
use Rattle.xsd_writer.specs.inner.Segments.{step_level}
use Rattle.xsd_writer.specs.inner.StepLines.{closings, opening_lines}
use Rattle.xsd_writer.proofs.step_lines.push_steps.Goals as goal

pub returns-in-Err : goal.returns-in-Err
returns-in-Err g c =
    let first = c.in-Some.first.now in
    let later = c.in-Some.later.now in
    let n = length later in
    let is : c.args.steps.now ≡ first ∷ later = sym c.as_slice.ensures ∙ c.in-Some.ensures.cases.0 in
    first_stops g.O.Sink.held g.O.Sink.faults g.O.Sink.room (texts_below opening_lines n) (first_text first (step_level n)) (closings later) _ (steps_are c.args.steps.now first later is) _ _ c.in-Err.error c.in-Err.ensures

pub returns-in-Err-push_first : goal.returns-in-Err-push_first
returns-in-Err-push_first g c =
    let first = c.in-Some.first.now in
    let later = c.in-Some.later.now in
    let n = length later in
    let is : c.args.steps.now ≡ first ∷ later = sym c.as_slice.ensures ∙ c.in-Some.ensures.cases.0 in
    second_stops g.O.Sink.held g.O.Sink.faults g.O.Sink.room (texts_below opening_lines n) (first_text first (step_level n)) (closings later) _ (steps_are c.args.steps.now first later is) _ _ _ c.in-Err-push_first.error c.in_default-push_openings.ensures c.in-Err-push_first.ensures

pub returns : goal.returns
returns g c =
    let first = c.in-Some.first.now in
    let later = c.in-Some.later.now in
    let n = length later in
    let is : c.args.steps.now ≡ first ∷ later = sym c.as_slice.ensures ∙ c.in-Some.ensures.cases.0 in
    third_ends g.O.Sink.held g.O.Sink.faults g.O.Sink.room (texts_below opening_lines n) (first_text first (step_level n)) (closings later) _ (steps_are c.args.steps.now first later is) _ _ _ _ c.push_closings.result c.in_default-push_openings.ensures c.in_default-push_first.ensures c.push_closings.ensures
