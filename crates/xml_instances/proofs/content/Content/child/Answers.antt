use Rattle.std.proofs.Common.{sym, ◌≡◌}
use Rattle.reference_check.specs.Steps.{Slotted, next}
use Rattle.message_model.specs.Tables.{message_of, types_of}
use Rattle.xml_instances.specs.Open.{path_round}
use Rattle.xml_instances.proofs.Contents.{child_slot}
use Rattle.xml_instances.proofs.content.Content.child.Goals as goal

pub returns-in-Slot-clause-taken : goal.returns-in-Slot-clause-taken
returns-in-Slot-clause-taken c d came ends =
    let e : next (types_of c.args.model.now c.args.number) d c.args.local.now ≡ Slotted c.in-Slot.at = sym (c.in-Slot.ensures d came ends) in
    child_slot (message_of c.args.model.now) c.args.number d c.args.local.now (path_round (types_of c.args.model.now) c.args.self.now.round.items) c.args.last c.args.count c.in-Slot.at c.step.new.self.innermost c.step.result c.step.ensures.taken e
    (c.slot_comes.ensures (types_of c.args.model.now c.args.number) d c.args.last c.args.count c.args.local.now c.in-Slot.at (c.type_count.ensures.sound c.args.number) came ends e)
