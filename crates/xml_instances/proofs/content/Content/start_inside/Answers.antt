use Rattle.std.proofs.Common.{map}
use Rattle.message_model.specs.Tables.{message_of}
use Rattle.xml_instances.proofs.Contents.{placed_entered, placed_wrong}
use Rattle.xml_instances.proofs.GoingOn.{start_shown}
use Rattle.markup.specs.TagAttributes.{tag_entry}
use Rattle.xml_instances.proofs.content.Content.start_inside.Goals as goal

pub returns-in-Ok-clause-taken : goal.returns-in-Ok-clause-taken
returns-in-Ok-clause-taken c ls n e ours h =
    placed_entered (message_of c.args.model.now) ls n (map tag_entry c.args.attrs.now) c.place_inside.new.self c.enter.new.self c.in-Ok.number c.enter.result (c.in-Ok.ensures.taken ls n e ours h) (λ round. c.enter.ensures.taken _ round)

pub returns-in-Err-clause-taken : goal.returns-in-Err-clause-taken
returns-in-Err-clause-taken c ls n e ours h = placed_wrong (Unit {0}) (message_of c.args.model.now) ls n (map tag_entry c.args.attrs.now) c.place_inside.new.self c.in-Err.refusal (c.in-Err.ensures.taken ls n e ours h)

pub returns-in-Ok-clause-shown : goal.returns-in-Ok-clause-shown
returns-in-Ok-clause-shown c ls n e h ours =
    start_shown c.args.model.now ls n (map tag_entry c.args.attrs.now) c.in-Ok.number c.args.self.now.pieces c.place_inside.new.self.pieces c.enter.new.self.pieces c.enter.result (c.in-Ok.ensures.taken ls n e ours h).1 (c.in-Ok.ensures.shown ls n e h) c.enter.ensures.shown
