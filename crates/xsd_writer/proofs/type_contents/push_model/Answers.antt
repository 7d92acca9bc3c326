-- The first line, the parts, and the last line.
use Rattle.std.proofs.Common.{◌≡◌, [], flat_map}
use Rattle.xsd_model.specs.SchemaText.{schema_part_text}
use Rattle.xsd_writer.proofs.Blocks.{first_stops, second_stops, third_ends}
use Rattle.xsd_writer.proofs.Lines.{model_end, model_some, model_start}
use Rattle.xsd_writer.proofs.type_contents.push_model.Goals as goal

pub returns-in-Err : goal.returns-in-Err
returns-in-Err g c =
    let some : c.args.parts.now ≡ [] → ⊥ = λ none. absurd (let e = c.is_empty.ensures.1 none in cc) in
    first_stops g.O.Sink.held g.O.Sink.faults g.O.Sink.room (model_start c.args.word.now) (flat_map schema_part_text c.args.parts.now) (model_end c.args.word.now) _ (model_some c.args.word.now c.args.parts.now some)
    _ _ c.in-Err.error c.in-Err.ensures

pub returns-in-Err-push_parts : goal.returns-in-Err-push_parts
returns-in-Err-push_parts g c =
    let some : c.args.parts.now ≡ [] → ⊥ = λ none. absurd (let e = c.is_empty.ensures.1 none in cc) in
    second_stops g.O.Sink.held g.O.Sink.faults g.O.Sink.room (model_start c.args.word.now) (flat_map schema_part_text c.args.parts.now) (model_end c.args.word.now) _ (model_some c.args.word.now c.args.parts.now some)
    _ _ _ c.in-Err-push_parts.error c.in_default.ensures c.in-Err-push_parts.ensures

pub returns : goal.returns
returns g c =
    let some : c.args.parts.now ≡ [] → ⊥ = λ none. absurd (let e = c.is_empty.ensures.1 none in cc) in
    third_ends g.O.Sink.held g.O.Sink.faults g.O.Sink.room (model_start c.args.word.now) (flat_map schema_part_text c.args.parts.now) (model_end c.args.word.now) _ (model_some c.args.word.now c.args.parts.now some)
    _ _ _ _ c.push_word-3.result c.in_default.ensures c.in_default-push_parts.ensures c.push_word-3.ensures
