-- What stands before the types, the types, and the last line.
use Rattle.std.proofs.Common.{◌++◌, ap, codes, flat_map}
use Rattle.xsd_model.specs.SchemaText.{head_text, type_text}
use Rattle.xsd_writer.proofs.Blocks.{first_stops, second_stops, third_ends}
use Rattle.xsd_writer.proofs.writer.push_schema.Goals as goal

pub returns-in-Err : goal.returns-in-Err
returns-in-Err g c =
    let types = flat_map type_text c.args.schema.now.types in
    let end = codes "</xs:schema>\n" in
    first_stops g.O.Sink.held g.O.Sink.faults g.O.Sink.room (head_text c.bytes.result.now) types end _ (ap (λ n. head_text n ++ (types ++ end)) c.bytes.ensures) _ _ c.in-Err.error c.in-Err.ensures

pub returns-in-Err-push_types : goal.returns-in-Err-push_types
returns-in-Err-push_types g c =
    let types = flat_map type_text c.args.schema.now.types in
    let end = codes "</xs:schema>\n" in
    second_stops g.O.Sink.held g.O.Sink.faults g.O.Sink.room (head_text c.bytes.result.now) types end _ (ap (λ n. head_text n ++ (types ++ end)) c.bytes.ensures) _ _ _ c.in-Err-push_types.error c.in_default.ensures c.in-Err-push_types.ensures

pub returns : goal.returns
returns g c =
    let types = flat_map type_text c.args.schema.now.types in
    let end = codes "</xs:schema>\n" in
    third_ends g.O.Sink.held g.O.Sink.faults g.O.Sink.room (head_text c.bytes.result.now) types end _ (ap (λ n. head_text n ++ (types ++ end)) c.bytes.ensures) _ _ _ _ c.push_bytes.result c.in_default.ensures c.in_default-push_types.ensures c.push_bytes.ensures.push
