use Rattle.std.proofs.Common.{◌≡◌, subst}
use Rattle.std.proofs.lemmas.Result.{on_ok_weaker}
use Rattle.markup.specs.EventItems.{item_of}
use Rattle.message_model.specs.Tables.{message_of}
use Rattle.xml_instances.specs.Built.{Shown, ShowsBeside, EventShows, with_event}
use Rattle.xml_instances.proofs.GoingOn.{go_then, open_same}
use Rattle.xml_instances.proofs.content.Content.take.Goals as goal

pub returns-in-Ok-clause-taken : goal.returns-in-Ok-clause-taken
returns-in-Ok-clause-taken c ls h =
    c.take_what.ensures.taken ls (open_same (message_of c.args.model.now) c.args.self.now c.keep_event.new.self ls c.keep_event.ensures.text c.keep_event.ensures.innermost c.keep_event.ensures.round h)

pub returns-in-Ok-clause-shown : goal.returns-in-Ok-clause-shown
returns-in-Ok-clause-shown c ls h sorted =
    let item = item_of c.args.event.now.what in
    on_ok_weaker c.take_what.result (λ then_.
    go_then {Q = EventShows c.args.model.now ls item} {R = λ s u. u ≡ with_event ls item s} {S = ShowsBeside c.args.model.now ls item} c.args.self.now.pieces c.keep_event.new.self.pieces c.take_what.new.self.pieces
    (λ s u t e x. subst (λ (y : Shown). ShowsBeside c.args.model.now ls item y t) e x) (c.in-Ok.ensures.shown (message_of c.args.model.now) ls h sorted) then_)
    (c.take_what.ensures.shown ls (open_same (message_of c.args.model.now) c.args.self.now c.keep_event.new.self ls c.keep_event.ensures.text c.keep_event.ensures.innermost c.keep_event.ensures.round h))
