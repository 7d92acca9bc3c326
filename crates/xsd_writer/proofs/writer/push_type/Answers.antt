-- The first line, the contents, and the last line.
use Rattle.xsd_writer.proofs.Blocks.{first_stops, second_stops, third_ends}
use Rattle.xsd_writer.proofs.TypeTexts.{type_end, type_is, type_start}
use Rattle.xsd_writer.specs.inner.TypeContents.{contents_text}
use Rattle.xsd_writer.proofs.writer.push_type.Goals as goal

pub returns-in-Err : goal.returns-in-Err
returns-in-Err g c =
    let type = c.args.definition.now in
    let word = c.type_word-word.result.now in
    let name = c.bytes.result.now in
    first_stops g.O.Sink.held g.O.Sink.faults g.O.Sink.room (type_start word name) (contents_text type.shape) (type_end word) _ (type_is type word name c.type_word-word.ensures c.bytes.ensures) _ _ c.in-Err.error c.in-Err.ensures

pub returns-in-Err-push_contents : goal.returns-in-Err-push_contents
returns-in-Err-push_contents g c =
    let type = c.args.definition.now in
    let word = c.type_word-word.result.now in
    let name = c.bytes.result.now in
    second_stops g.O.Sink.held g.O.Sink.faults g.O.Sink.room (type_start word name) (contents_text type.shape) (type_end word) _ (type_is type word name c.type_word-word.ensures c.bytes.ensures) _ _ _ c.in-Err-push_contents.error c.in_default.ensures c.in-Err-push_contents.ensures

pub returns : goal.returns
returns g c =
    let type = c.args.definition.now in
    let word = c.type_word-word.result.now in
    let name = c.bytes.result.now in
    third_ends g.O.Sink.held g.O.Sink.faults g.O.Sink.room (type_start word name) (contents_text type.shape) (type_end word) _ (type_is type word name c.type_word-word.ensures c.bytes.ensures) _ _ _ _ c.push_word.result c.in_default.ensures c.in_default-push_contents.ensures c.push_word.ensures
