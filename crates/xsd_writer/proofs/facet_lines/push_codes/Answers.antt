-- Each code follows those before it.
use Rattle.std.proofs.Common.{◌≡◌, ◌+◌, ◌∙◌, Some, ap, codes, get_or, sym}
use Rattle.std.specs.Prelude.{slice_get}
use Rattle.std.specs.Option.{option_copied}
use Rattle.std.proofs.lemmas.Option.{get_or_from_slice_get, slice_get_within}
use Rattle.outside.proofs.Rendering.{one_more, one_stops}
use Rattle.xsd_model.specs.SchemaText.{value_facet}
use Rattle.xsd_writer.specs.inner.Segments.{step_level}
use Rattle.xsd_writer.proofs.facet_lines.push_codes.Goals as goal

pub loop-at-preserved : goal.loop-at-preserved
loop-at-preserved g c =
    let text = value_facet (step_level c.args.steps + 1) (codes "enumeration") in
    let list = c.args.values.now in
    let value = c.in-Some.value.now in
    let there : slice_get list c.loop-at.at ≡ Some value = sym c.get.ensures ∙ ap option_copied c.in-Some.is in
    let is : c.bytes.result.now ≡ get_or list c.loop-at.at value = c.bytes.ensures ∙ sym (get_or_from_slice_get list c.loop-at.at value value there) in
    one_more g.O.Sink.held g.O.Sink.faults g.O.Sink.room text list c.loop-at.at value _ _ _ (text c.bytes.result.now) (slice_get_within list c.loop-at.at value there) (ap text is)
    c.loop-at.invariant c.in_default-push_line.ensures

pub returns-in-Err : goal.returns-in-Err
returns-in-Err g c =
    let text = value_facet (step_level c.args.steps + 1) (codes "enumeration") in
    let list = c.args.values.now in
    let value = c.in-Some.value.now in
    let there : slice_get list c.loop-at.at ≡ Some value = sym c.get.ensures ∙ ap option_copied c.in-Some.is in
    let is : c.bytes.result.now ≡ get_or list c.loop-at.at value = c.bytes.ensures ∙ sym (get_or_from_slice_get list c.loop-at.at value value there) in
    one_stops g.O.Sink.held g.O.Sink.faults g.O.Sink.room text list c.loop-at.at value _ _ _ (text c.bytes.result.now) c.in-Err.error (slice_get_within list c.loop-at.at value there) (ap text is)
    c.loop-at.invariant c.in-Err.ensures
