-- The element is passed over, or its tag is taken.
use Rattle.std.proofs.Common.{ap, ◌∙◌, subst, map, refl}
use Rattle.lexical_core.specs.Tree.{Expanded}
use Rattle.markup.specs.TagAttributes.{tag_entry}
use Rattle.repo_loader.specs.Selected.{part_in}
use Rattle.repo_loader.specs.inner.SelectionSteps.{tags_told}
use Rattle.repo_loader.specs.inner.Stops.{TellsStop}
use Rattle.repo_loader.proofs.TagSteps.{tag_of}
use Rattle.repo_loader.proofs.EventSteps.{start_passed, start_taken, start_broken}
use Rattle.repo_loader.proofs.selection.Selection.take_start.Goals as goal

pub take_tag-requires : goal.take_tag-requires
take_tag-requires c = record { closes = c.requires.loaded.1.closes.entry; closes_message = c.requires.loaded.1.closes.message; texts = c.requires.texts }

pub returns-in-LeftOut : goal.returns-in-LeftOut
returns-in-LeftOut c told h =
    let n : Expanded = record { namespace = c.args.ns.now; local = c.args.local.now } in
    let as' = map tag_entry c.args.attributes.now in
    start_passed c.args.self.now (record { alloc = c.args.self.now.alloc; open_parts = c.push.new.self; loading = c.args.self.now.loading }) told c.args.place n as' c.part_in-part.result h
    (c.part_in-part.ensures ∙ ap (λ p. part_in p n as') c.innermost.ensures) c.in_ok-push.ensures.items
    c.in-LeftOut.is refl

pub returns-in-Ok : goal.returns-in-Ok
returns-in-Ok c told h =
    let n : Expanded = record { namespace = c.args.ns.now; local = c.args.local.now } in
    let as' = map tag_entry c.args.attributes.now in
    start_taken c.args.self.now (record { alloc = c.args.self.now.alloc; open_parts = c.push.new.self; loading = c.take_tag.new.self }) told c.args.place n as' c.part_in-part.result h
    (c.part_in-part.ensures ∙ ap (λ p. part_in p n as') c.innermost.ensures) c.in_ok-push.ensures.items
    c.in_default.not-LeftOut (c.in-Ok.ensures.ok (tags_told told) h.tags) (record { entry = c.in-Ok.ensures.can_close; message = c.in-Ok.ensures.can_close_message })

pub returns-in-Err-Rule : goal.returns-in-Err-Rule
returns-in-Err-Rule c told h =
    let n : Expanded = record { namespace = c.args.ns.now; local = c.args.local.now } in
    let as' = map tag_entry c.args.attributes.now in
    start_broken c.args.self.now (record { alloc = c.args.self.now.alloc; open_parts = c.push.new.self; loading = c.take_tag.new.self }) told c.args.place n as' c.part_in-part.result h
    (c.part_in-part.ensures ∙ ap (λ p. part_in p n as') c.innermost.ensures) c.in_ok-push.ensures.items
    c.in_default.not-LeftOut c.in-Err-Rule.rule (subst (TellsStop (tags_told told) (tag_of c.part_in-part.result as')) c.in-Err-Rule.field-0-is (c.in-Err-Rule.ensures.err (tags_told told) h.tags))
