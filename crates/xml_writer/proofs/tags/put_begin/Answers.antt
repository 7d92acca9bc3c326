-- The tag is that of the slot.
use Rattle.std.proofs.Common.{◌++◌, ap, sym, ◌∙◌}
use Rattle.xml_writer.specs.inner.PieceTexts.{begun_tag}
use Rattle.xml_writer.proofs.tags.put_begin.Goals as goal

pub returns-clause-put : goal.returns-clause-put
returns-clause-put c = λ yes s is.
    c.put_all-2.ensures.put yes ∙ (ap (λ u. c.args.buffer.now ++ begun_tag c.tag_of-tag.result.now u) (sym c.if-unended.false)
    ∙ ap (λ t. c.args.buffer.now ++ begun_tag t c.args.unended) (c.tag_of-tag.ensures s is))

pub returns-then-unended-clause-put : goal.returns-then-unended-clause-put
returns-then-unended-clause-put c = λ yes s is.
    c.put_all.ensures.put yes ∙ (ap (λ u. c.args.buffer.now ++ begun_tag c.tag_of-tag.result.now u) (sym c.if-unended.true)
    ∙ ap (λ t. c.args.buffer.now ++ begun_tag t c.args.unended) (c.tag_of-tag.ensures s is))
