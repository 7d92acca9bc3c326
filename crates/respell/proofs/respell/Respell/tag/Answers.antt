use Rattle.std.proofs.Common.{List, [], ◌∷◌, ◌++◌, sym, ap, subst, append_assoc, ◌∙◌}
use Rattle.std.specs.Prelude.{OnOk}
use Rattle.lexical_core.specs.Tree.{Item, Starts, Ends}
use Rattle.markup.specs.PlainTags.{tag_items}
use Rattle.markup.specs.declared.plain_tag.TagKind.{TagKind}
use Rattle.respell.specs.Kept.{HasWritten}
use Rattle.respell.proofs.respell.Respell.tag.Goals as goal

pub returns-in-Ok : goal.returns-in-Ok
returns-in-Ok c forgotten items n e h (outer, last) =
    subst (λ (k : TagKind). OnOk c.end_inside.result (HasWritten c.end_inside.new.self forgotten (items ++ tag_items k n))) (sym c.in-Empty.is)
    (subst (λ (l : List Item). OnOk c.end_inside.result (HasWritten c.end_inside.new.self forgotten l)) (append_assoc items (Starts n [] ∷ []) (Ends n ∷ []))
    (c.end_inside.ensures forgotten (items ++ Starts n [] ∷ []) n e (c.in-Ok.ensures.written forgotten items n e h (outer, last)) (outer, ap (λ v. v.items) c.in-Ok.ensures.defaults ∙ last)))
