use Rattle.std.proofs.Common.{rules, ◌≡◌, Option, Some, None, subst}
use Rattle.std.proofs.lemmas.Result.{on_ok_weaker}
use Rattle.lexical_core.specs.Tree.{Expanded}
use Rattle.markup.specs.PlainTags.{tag_items}
use Rattle.xml_instances.specs.Keeping.{PiecesKept, MayShowName, IsKeptDefault}
use Rattle.xml_instances.specs.declared.opened.Opened.{Opened}
use Rattle.xml_instances.specs.declared.opened.Opened.TheVariants as opened
use Rattle.xml_instances.proofs.GoingOn.{tag_kept}
use Rattle.xml_instances.proofs.content.Content.keep_tag.Goals as goal

kept_default : (p : Option PiecesKept) (n : Expanded) → MayShowName p (Some opened.Foreign) n → IsKeptDefault p n
kept_default None n h = tt
kept_default (Some p) n h = h

pub returns-in-Some-Foreign-clause-shown : goal.returns-in-Some-Foreign-clause-shown
returns-in-Some-Foreign-clause-shown c m ls n e h may =
    let is : c.args.self.now.innermost ≡ Some opened.Foreign = search rules in
    let k : IsKeptDefault c.args.self.now.pieces n = kept_default c.args.self.now.pieces n (subst (λ (o : Option Opened). MayShowName c.args.self.now.pieces o n) is may) in
    on_ok_weaker c.inside_tag.result (λ go. tag_kept m ls (tag_items c.args.kind n) c.args.self.now.innermost c.args.self.now.text c.args.self.now.round.items c.args.self.now.pieces c.inside_tag.new.pieces h is go) (c.inside_tag.ensures.shown n e k)
