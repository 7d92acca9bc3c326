-- A plain text goes into the buffer as it stands.
use Rattle.std.proofs.Common.{false, ◌++◌, ap, ◌∙◌}
use Rattle.std.proofs.lemmas.List.{append-nil}
use Rattle.xml_writer.proofs.PlainTexts.{plain_text}
use Rattle.xml_writer.proofs.texts.put_spelled.Goals as goal

pub returns-clause-put : goal.returns-clause-put
returns-clause-put c = λ yes chars e.
    c.put_all.ensures.put yes ∙ ap (λ t. c.args.buffer.now ++ t) (append-nil c.args.text.now ∙ plain_text false c.args.text.now chars (c.stands_for_itself.ensures c.if-not-stands_for_itself.false) e)
