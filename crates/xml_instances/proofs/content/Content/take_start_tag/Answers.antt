use Rattle.std.proofs.Common.{Bool, [], ◌∷◌, sym, subst, map}
use Rattle.std.specs.Prelude.{OnOk}
use Rattle.std.specs.Bool.{if◌then◌else◌}
use Rattle.std.proofs.lemmas.Result.{on_ok_weaker}
use Rattle.lexical_core.specs.Tree.{Starts, Ends}
use Rattle.message_model.specs.Tables.{message_of}
use Rattle.xml_instances.specs.Levels.{levels_after}
use Rattle.xml_instances.specs.Built.{EventsShow}
use Rattle.xml_instances.specs.Keeping.{GoOn}
use Rattle.markup.specs.TagAttributes.{tag_entry}
use Rattle.xml_instances.specs.inner.Quick.{AreItemsTaken, start_events}
use Rattle.xml_instances.proofs.QuickRuns.{first_wrong, two_items}
use Rattle.xml_instances.proofs.StartTags.{parent_beside, start_goes_on, both_go_on}
use Rattle.xml_instances.proofs.content.Content.take_start_tag.Goals as goal

pub returns-then-is_empty-clause-taken : goal.returns-then-is_empty-clause-taken
returns-then-is_empty-clause-taken c ls n e ours h =
    let m = message_of c.args.model.now in
    let entries = map tag_entry c.args.attrs.now in
    subst (λ (b : Bool). AreItemsTaken m ls (start_events b entries n) c.end.new.self c.end.result) (sym c.if-is_empty.true)
    (two_items {T = Unit {0}} {U = Unit {0}} m ls (Starts n entries) (Ends n) c.start_inside.new.self c.end.new.self tt c.end.result (c.in-Ok.ensures.taken ls n e ours h)
    (λ k. c.end.ensures.taken (levels_after m ls (Starts n entries)) n k))

pub returns-in-Err-clause-taken : goal.returns-in-Err-clause-taken
returns-in-Err-clause-taken c ls n e ours h =
    first_wrong (Unit {0}) (message_of c.args.model.now) ls (Starts n (map tag_entry c.args.attrs.now)) (if c.args.is_empty then Ends n ∷ [] else []) c.start_inside.new.self c.in-Err.refusal (c.in-Err.ensures.taken ls n e ours h)

pub returns-then-is_empty-clause-shown : goal.returns-then-is_empty-clause-shown
returns-then-is_empty-clause-shown c ls n e ours h =
    let T = c.args.model.now in
    let m = message_of T in
    let entries = map tag_entry c.args.attrs.now in
    let old = c.args.self.now in
    let beside = parent_beside m old.text old.innermost old.round.items ls c.requires.inside h in
    let taken = c.in-Ok.ensures.taken ls n e ours h in
    subst (λ (b : Bool). OnOk c.end.result (GoOn old.pieces c.end.new.self.pieces (EventsShow T ls (start_events b entries n)))) (sym c.if-is_empty.true)
    (on_ok_weaker c.end.result (λ on. both_go_on T ls n entries beside old.pieces c.start_inside.new.self.pieces c.end.new.self.pieces taken.0 (c.in-Ok.ensures.shown ls n e h ours) on)
    (c.end.ensures.shown (levels_after m ls (Starts n entries)) n taken.1))

pub returns-else-is_empty-clause-shown : goal.returns-else-is_empty-clause-shown
returns-else-is_empty-clause-shown c ls n e ours h =
    let T = c.args.model.now in
    let old = c.args.self.now in
    let entries = map tag_entry c.args.attrs.now in
    subst (λ (b : Bool). GoOn old.pieces c.start_inside.new.self.pieces (EventsShow T ls (start_events b entries n))) (sym c.if-is_empty.false)
    (start_goes_on T ls n entries (parent_beside (message_of T) old.text old.innermost old.round.items ls c.requires.inside h) old.pieces c.start_inside.new.self.pieces (c.in-Ok.ensures.shown ls n e h ours))
