-- Each element follows those before it.
use Rattle.std.proofs.Common.{◌≡◌, ◌<◌, ◌≤◌, ◌∙◌, ap, arith, get_or, length}
use Rattle.outside.proofs.Rendering.{one_more, one_stops, all_went}
use Rattle.xsd_model.specs.SchemaText.{schema_part_text}
use Rattle.xsd_writer.proofs.type_contents.push_parts.Goals as goal

pub loop-part-preserved : goal.loop-part-preserved
loop-part-preserved g c =
    let list = c.args.parts.now in
    let same : c.as_slice-part-items.result.now ≡ list = c.as_slice-part-items.ensures in
    let at = c.loop-part.part-index in
    let item = c.part-item.result in
    let fits : at < length list = omega (arith, c.loop-part-test.true, ap length same) in
    let is : item ≡ get_or list at item = c.part-item.is ∙ ap (λ xs. get_or xs at item) same in
    one_more g.O.Sink.held g.O.Sink.faults g.O.Sink.room schema_part_text list at item _ _ _ (schema_part_text item) fits (ap schema_part_text is) c.loop-part.invariant c.in_default.ensures

pub returns-in-Err : goal.returns-in-Err
returns-in-Err g c =
    let list = c.args.parts.now in
    let same : c.as_slice-part-items.result.now ≡ list = c.as_slice-part-items.ensures in
    let at = c.loop-part.part-index in
    let item = c.part-item.result in
    let fits : at < length list = omega (arith, c.loop-part-test.true, ap length same) in
    let is : item ≡ get_or list at item = c.part-item.is ∙ ap (λ xs. get_or xs at item) same in
    one_stops g.O.Sink.held g.O.Sink.faults g.O.Sink.room schema_part_text list at item _ _ _ (schema_part_text item) c.in-Err.error fits (ap schema_part_text is) c.loop-part.invariant c.in-Err.ensures

pub returns : goal.returns
returns g c =
    let list = c.args.parts.now in
    let same : c.as_slice-part-items.result.now ≡ list = c.as_slice-part-items.ensures in
    let past : length list ≤ c.loop-part.part-index = omega (arith, c.loop-part-test.false, ap length same) in
    all_went g.O.Sink.held g.O.Sink.faults g.O.Sink.room schema_part_text list c.loop-part.part-index _ _ past c.loop-part.invariant
