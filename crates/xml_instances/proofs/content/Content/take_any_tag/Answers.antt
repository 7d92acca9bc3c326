use Rattle.message_model.specs.Tables.{message_of}
use Rattle.xml_instances.proofs.GoingOn.{tag_held, open_same}
use Rattle.xml_instances.proofs.content.Content.take_any_tag.Goals as goal

pub returns-in-Ok-clause-taken : goal.returns-in-Ok-clause-taken
returns-in-Ok-clause-taken c ls n e ours h =
    c.hold_tag.ensures.taken ls n e ours (open_same (message_of c.args.model.now) c.args.self.now c.keep_tag.new.self ls c.keep_tag.ensures.text c.keep_tag.ensures.innermost c.keep_tag.ensures.round h)

pub returns-in-Ok-clause-shown : goal.returns-in-Ok-clause-shown
returns-in-Ok-clause-shown c ls n e ours h may =
    let m = message_of c.args.model.now in
    let same = open_same m c.args.self.now c.keep_tag.new.self ls c.keep_tag.ensures.text c.keep_tag.ensures.innermost c.keep_tag.ensures.round h in
    tag_held c.args.model.now ls c.args.kind n c.args.self.now.innermost c.args.self.now.text c.args.self.now.round.items c.args.self.now.pieces c.keep_tag.new.self.pieces c.hold_tag.new.self c.hold_tag.result h may
    (c.in-Ok.ensures.shown m ls n e h may) (c.hold_tag.ensures.taken ls n e ours same) (c.hold_tag.ensures.shown ls n e ours same)
