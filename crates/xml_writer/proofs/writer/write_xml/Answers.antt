-- What the pieces write within the root is the canonical XML.
use Rattle.std.proofs.Common.{sym, subst}
use Rattle.outside.specs.Pushes.{Pushes}
use Rattle.outside.proofs.Pushing.{stopped}
use Rattle.message_model.specs.Tables.{types_of}
use Rattle.xml_writer.specs.inner.PieceTexts.{innermost_begun, AreWritten, document_text}
use Rattle.xml_writer.proofs.WrittenValues.{written_value}
use Rattle.xml_writer.proofs.writer.write_xml.Goals as goal

pub push_document-requires : goal.push_document-requires
push_document-requires g c =
    let held = c.requires.held in
    let w = written_value c.args.model.now held.0 held.1 in
    (w.content, subst (λ ps. AreWritten (types_of c.args.model.now) (innermost_begun (types_of c.args.model.now) 0) ps w.content) (sym held.2) w.pieces_write)

pub returns-in-Ok : goal.returns-in-Ok
returns-in-Ok g c = λ v admits is.
    let w = written_value c.args.model.now v admits in
    (_, w.canonical, c.in-Ok.ensures w.content (subst (λ ps. AreWritten (types_of c.args.model.now) (innermost_begun (types_of c.args.model.now) 0) ps w.content) (sym is) w.pieces_write))

pub returns-in-Err-Failed : goal.returns-in-Err-Failed
returns-in-Err-Failed g c = λ v admits is.
    let w = written_value c.args.model.now v admits in
    let writes = subst (λ ps. AreWritten (types_of c.args.model.now) (innermost_begun (types_of c.args.model.now) 0) ps w.content) (sym is) w.pieces_write in
    (_, w.canonical, subst (λ e. Pushes g.O.Sink.held g.O.Sink.faults g.O.Sink.room c.args.sink.now c.push_document.new.sink (stopped e) (document_text c.args.model.now w.content)) c.in-Err-Failed.field-0-is (c.in-Err-Failed.ensures w.content writes))

pub returns-in-Err-Memory : goal.returns-in-Err-Memory
returns-in-Err-Memory g c = λ v admits is.
    let w = written_value c.args.model.now v admits in
    let writes = subst (λ ps. AreWritten (types_of c.args.model.now) (innermost_begun (types_of c.args.model.now) 0) ps w.content) (sym is) w.pieces_write in
    (_, w.canonical, subst (λ e. Pushes g.O.Sink.held g.O.Sink.faults g.O.Sink.room c.args.sink.now c.push_document.new.sink (stopped e) (document_text c.args.model.now w.content)) c.in-Err-Memory.field-0-is (c.in-Err-Memory.ensures w.content writes))
