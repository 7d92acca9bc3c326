-- The head, the pieces and the end of the root.
use Rattle.std.proofs.Common.{refl}
use Rattle.message_model.specs.Tables.{types_of, message_namespace}
use Rattle.xml_writer.specs.inner.PieceTexts.{is_amount, document_head, document_tail}
use Rattle.xml_writer.proofs.Blocks.{first_stops, second_stops, third_ends}
use Rattle.xml_writer.proofs.writer.push_document.Goals as goal

pub returns-in-Err : goal.returns-in-Err
returns-in-Err g c = λ bytes w.
    first_stops g.O.Sink.held g.O.Sink.faults g.O.Sink.room (document_head (message_namespace c.args.model.now) (is_amount (types_of c.args.model.now 0))) bytes document_tail _ refl
    _ _ c.in-Err.error c.in-Err.ensures

pub returns-in-Err-push_pieces : goal.returns-in-Err-push_pieces
returns-in-Err-push_pieces g c = λ bytes w.
    second_stops g.O.Sink.held g.O.Sink.faults g.O.Sink.room (document_head (message_namespace c.args.model.now) (is_amount (types_of c.args.model.now 0))) bytes document_tail _ refl
    _ _ _ c.in-Err-push_pieces.error c.in_default.ensures (c.in-Err-push_pieces.ensures bytes w)

pub returns : goal.returns
returns g c = λ bytes w.
    third_ends g.O.Sink.held g.O.Sink.faults g.O.Sink.room (document_head (message_namespace c.args.model.now) (is_amount (types_of c.args.model.now 0))) bytes document_tail _ refl
    _ _ _ _ c.push_bytes.result c.in_default.ensures (c.in_default-push_pieces.ensures bytes w) c.push_bytes.ensures.push
