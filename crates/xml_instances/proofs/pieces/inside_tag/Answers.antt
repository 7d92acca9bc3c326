use Rattle.std.proofs.Common.{Option, subst}
use Rattle.markup.specs.PlainTags.{tag_items}
use Rattle.xml_instances.specs.Keeping.{PiecesKept, IsKeptDefault, with_all_inside}
use Rattle.xml_instances.proofs.KeptPieces.{one_step}
use Rattle.xml_instances.proofs.pieces.inside_tag.Goals as goal

pub returns-in-Some-clause-shown : goal.returns-in-Some-clause-shown
returns-in-Some-clause-shown c n e k =
    one_step c.args.pieces.now c.in-Some.pieces c.inside_tag.new.self (with_all_inside (tag_items c.args.kind n)) c.inside_tag.result c.in-Some.is
    (λ s h. c.inside_tag.ensures s n e (subst (λ (v : Option PiecesKept). IsKeptDefault v n) c.in-Some.is k) h)
