-- One more attribute is given, and all of them behind the last.
use Rattle.std.proofs.Common.{[], ◌∷◌, ◌++◌, map, ◌∙◌, ap, subst, sym}
use Rattle.std.proofs.lemmas.List.{map-append}
use Rattle.markup.specs.inner.TagParts.{tag_given}
use Rattle.markup.specs.inner.WholeStarts.{named_by, AreGiven, AreLeft}
use Rattle.markup.proofs.StartsFound.{none_done, more_done, all_done}
use Rattle.markup.proofs.start_tag.attributes_at.Goals as goal

pub loop-attribute-init : goal.loop-attribute-init
loop-attribute-init c = subst (λ xs. AreGiven c.args.bytes.now (map tag_given xs) c.args.bytes.now × AreLeft c.args.bytes.now c.args.bytes.now) (sym (c.in_ok-make_room.ensures ∙ c.requires)) (none_done c.args.bytes.now)

pub loop-attribute-preserved : goal.loop-attribute-preserved
loop-attribute-preserved c =
    more_done c.args.bytes.now c.loop-attribute.left.now (named_by c.in-Some.attribute.prefix.now c.in-Some.attribute.local.now) c.in-Some.attribute.value.now c.in-Some.attribute.behind.now (map tag_given c.loop-attribute.found.items) (map tag_given c.push.new.self.items)
    c.loop-attribute.invariant c.in-Some.ensures.found c.in-Some.ensures.all
    (ap (map tag_given) c.in_ok-push.ensures.items ∙ (map-append tag_given c.loop-attribute.found.items (c.spelled.result ∷ []) ∙ ap (λ g. map tag_given c.loop-attribute.found.items ++ g ∷ []) c.spelled.ensures))

pub returns-clause-all : goal.returns-clause-all
returns-clause-all c attributes last p s e = all_done c.args.bytes.now c.loop-attribute.left.now last (map tag_given c.loop-attribute.found.items) attributes c.loop-attribute.invariant c.in_default.ensures.all p s e
