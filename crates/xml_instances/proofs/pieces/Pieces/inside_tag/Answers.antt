use Rattle.markup.specs.PlainTags.{tag_items}
use Rattle.xml_instances.proofs.KeptPieces.{inside_ok, kept_as}
use Rattle.xml_instances.proofs.pieces.Pieces.inside_tag.Goals as goal

pub returns : goal.returns
returns c = rw (← c.self.view_is) (λ s n e k h. inside_ok (kept_as c.self.inside.builder.pieces c.self.inside.element) s (tag_items c.args.kind n) c.take_tag.new.self c.take_tag.result h (c.take_tag.ensures.ok s.inside n e h.inside_are k))
