-- Each pattern follows those before it.
use Rattle.std.proofs.Common.{◌≡◌, ◌<◌, ◌≤◌, ◌+◌, ◌∙◌, ap, arith, codes, get_or, length}
use Rattle.outside.proofs.Rendering.{one_more, one_stops, all_went}
use Rattle.xsd_model.specs.SchemaText.{value_facet}
use Rattle.xsd_writer.specs.inner.Segments.{step_level}
use Rattle.xsd_writer.proofs.facet_lines.push_patterns.Goals as goal

pub loop-value-preserved : goal.loop-value-preserved
loop-value-preserved g c =
    let text = value_facet (step_level c.args.steps + 1) (codes "pattern") in
    let list = c.args.values.now in
    let same : c.as_slice-value-items.result.now ≡ list = c.as_slice-value-items.ensures in
    let at = c.loop-value.value-index in
    let item = c.value-item.result in
    let fits : at < length list = omega (arith, c.loop-value-test.true, ap length same) in
    let is : c.bytes.result.now ≡ get_or list at item = c.bytes.ensures ∙ (c.value-item.is ∙ ap (λ xs. get_or xs at item) same) in
    one_more g.O.Sink.held g.O.Sink.faults g.O.Sink.room text list at item _ _ _ (text c.bytes.result.now) fits (ap text is) c.loop-value.invariant c.in_default.ensures

pub returns-in-Err : goal.returns-in-Err
returns-in-Err g c =
    let text = value_facet (step_level c.args.steps + 1) (codes "pattern") in
    let list = c.args.values.now in
    let same : c.as_slice-value-items.result.now ≡ list = c.as_slice-value-items.ensures in
    let at = c.loop-value.value-index in
    let item = c.value-item.result in
    let fits : at < length list = omega (arith, c.loop-value-test.true, ap length same) in
    let is : c.bytes.result.now ≡ get_or list at item = c.bytes.ensures ∙ (c.value-item.is ∙ ap (λ xs. get_or xs at item) same) in
    one_stops g.O.Sink.held g.O.Sink.faults g.O.Sink.room text list at item _ _ _ (text c.bytes.result.now) c.in-Err.error fits (ap text is) c.loop-value.invariant c.in-Err.ensures

pub returns : goal.returns
returns g c =
    let text = value_facet (step_level c.args.steps + 1) (codes "pattern") in
    let list = c.args.values.now in
    let same : c.as_slice-value-items.result.now ≡ list = c.as_slice-value-items.ensures in
    let past : length list ≤ c.loop-value.value-index = omega (arith, c.loop-value-test.false, ap length same) in
    all_went g.O.Sink.held g.O.Sink.faults g.O.Sink.room text list c.loop-value.value-index _ _ past c.loop-value.invariant
