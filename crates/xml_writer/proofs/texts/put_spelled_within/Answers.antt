-- The start tag, and then the text and the end tag.
use Rattle.std.proofs.Common.{◌≡◌, false, ◌++◌, flat_map, ap, ◌∙◌, append_assoc}
use Rattle.lexical_core.specs.Escapes.{escape_of}
use Rattle.xml_writer.specs.CanonXml.{end_tag}
use Rattle.xml_writer.specs.inner.PieceTexts.{begun_tag}
use Rattle.xml_writer.proofs.PlainTexts.{plain_text}
use Rattle.xml_writer.proofs.texts.put_spelled_within.Goals as goal

pub returns-then-put_with_end-clause-put : goal.returns-then-put_with_end-clause-put
returns-then-put_with_end-clause-put c = λ yes chars e.
    let old = c.args.buffer.now in
    let start = begun_tag c.args.tag.now false in
    let end = end_tag c.args.tag.now in
    let plain : c.args.text.now ≡ flat_map (escape_of false) chars = plain_text false c.args.text.now chars (c.stands_for_itself.ensures c.if-not-stands_for_itself.false) e in
    c.put_with_end.ensures.put c.if-put_with_end.true ∙ (ap (λ t. t ++ (c.args.text.now ++ end)) (c.put_all.ensures.put c.if-not-put_all.false)
    ∙ (append_assoc old start (c.args.text.now ++ end) ∙ ap (λ t. old ++ (start ++ (t ++ end))) plain))
