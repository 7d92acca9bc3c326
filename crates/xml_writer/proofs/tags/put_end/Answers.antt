-- The tag is that of the slot.
use Rattle.std.proofs.Common.{◌++◌, ap, ◌∙◌}
use Rattle.xml_writer.specs.CanonXml.{end_tag}
use Rattle.xml_writer.proofs.tags.put_end.Goals as goal

pub returns-clause-put : goal.returns-clause-put
returns-clause-put c = λ yes s is. c.put_all.ensures.put yes ∙ ap (λ t. c.args.buffer.now ++ end_tag t) (c.tag_of.ensures s is)
