use Rattle.std.proofs.Common.{rules, ◌≡◌, List, map, take, refl, subst}
use Rattle.markup.specs.TagAttributes.{tag_entry}
use Rattle.markup.specs.declared.attributes.TagAttribute.{TagAttribute}
use Rattle.xml_instances.specs.inner.Quick.{start_events}
use Rattle.xml_instances.proofs.QuickFed.{TagTold, front_tag, front_tag_stops}
use Rattle.xml_instances.proofs.StartFronts.{told_inside}
use Rattle.xml_instances.proofs.StartTags.{parent_may}
use Rattle.xml_instances.proofs.checker.XmlChecker.take_inner_start.Goals as goal

pub returns-in-Ok-clause-front : goal.returns-in-Ok-clause-front
returns-in-Ok-clause-front c before piece r =
    let t = c.args.tag.now in
    let attrs = c.as_slice.result.now in
    let same : t.attributes.items ≡ attrs = search rules in
    front_tag c.args.model.now (record c.args.self.now { reader = before }) _ piece t.name.now (start_events t.is_empty (map tag_entry attrs)) t.bytes r.within r.room
    (subst (λ (given : List TagAttribute). TagTold before c.args.self.now.reader (take t.bytes piece) (start_events t.is_empty (map tag_entry given)) t.name.now) same (told_inside before c.args.self.now.reader piece t r c.requires.same_ns))
    r.count c.saturating_add-self.ensures refl refl c.in-Ok.ensures.taken (λ ls n e ours h may. c.in-Ok.ensures.shown ls n e ours h) (parent_may c.args.self.now.content.pieces c.args.self.now.content.innermost c.requires.inside)

pub returns-in-Err-clause-front : goal.returns-in-Err-clause-front
returns-in-Err-clause-front c before piece r =
    let t = c.args.tag.now in
    let attrs = c.as_slice.result.now in
    let same : t.attributes.items ≡ attrs = search rules in
    front_tag_stops c.args.model.now (record c.args.self.now { reader = before }) _ piece t.name.now (start_events t.is_empty (map tag_entry attrs)) t.bytes c.in-Err.refusal c.told.result c.events_stay.ensures
    (subst (λ (given : List TagAttribute). TagTold before c.args.self.now.reader (take t.bytes piece) (start_events t.is_empty (map tag_entry given)) t.name.now) same (told_inside before c.args.self.now.reader piece t r c.requires.same_ns))
    c.in-Err.ensures.taken c.told.ensures
