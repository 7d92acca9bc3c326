-- Each type follows those before it.
use Rattle.std.proofs.Common.{◌≡◌, ◌<◌, ◌≤◌, ◌∙◌, ap, arith, get_or, length}
use Rattle.outside.proofs.Rendering.{one_more, one_stops, all_went}
use Rattle.xsd_model.specs.SchemaText.{type_text}
use Rattle.xsd_writer.proofs.writer.push_types.Goals as goal

pub loop-definition-preserved : goal.loop-definition-preserved
loop-definition-preserved g c =
    let list = c.args.types.now in
    let same : c.as_slice-definition-items.result.now ≡ list = c.as_slice-definition-items.ensures in
    let at = c.loop-definition.definition-index in
    let item = c.definition-item.result in
    let fits : at < length list = omega (arith, c.loop-definition-test.true, ap length same) in
    let is : item ≡ get_or list at item = c.definition-item.is ∙ ap (λ xs. get_or xs at item) same in
    one_more g.O.Sink.held g.O.Sink.faults g.O.Sink.room type_text list at item _ _ _ (type_text item) fits (ap type_text is) c.loop-definition.invariant c.in_default.ensures

pub returns-in-Err : goal.returns-in-Err
returns-in-Err g c =
    let list = c.args.types.now in
    let same : c.as_slice-definition-items.result.now ≡ list = c.as_slice-definition-items.ensures in
    let at = c.loop-definition.definition-index in
    let item = c.definition-item.result in
    let fits : at < length list = omega (arith, c.loop-definition-test.true, ap length same) in
    let is : item ≡ get_or list at item = c.definition-item.is ∙ ap (λ xs. get_or xs at item) same in
    one_stops g.O.Sink.held g.O.Sink.faults g.O.Sink.room type_text list at item _ _ _ (type_text item) c.in-Err.error fits (ap type_text is) c.loop-definition.invariant c.in-Err.ensures

pub returns : goal.returns
returns g c =
    let list = c.args.types.now in
    let same : c.as_slice-definition-items.result.now ≡ list = c.as_slice-definition-items.ensures in
    let past : length list ≤ c.loop-definition.definition-index = omega (arith, c.loop-definition-test.false, ap length same) in
    all_went g.O.Sink.held g.O.Sink.faults g.O.Sink.room type_text list c.loop-definition.definition-index _ _ past c.loop-definition.invariant
