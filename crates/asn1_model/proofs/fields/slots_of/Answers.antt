-- One more slot is told.
use Rattle.reference_check.specs.Forms.{form_slots}
use Rattle.message_model.specs.Tables.{types_of}
use Rattle.asn1_model.specs.inner.Fields.{slot_in}
use Rattle.asn1_model.proofs.FieldLemmas.{slots_more}
use Rattle.asn1_model.proofs.fields.slots_of.Goals as goal

pub loop-at-preserved : goal.loop-at-preserved
loop-at-preserved c =
    slots_more slot_in (form_slots (types_of c.args.model.now c.args.number)) c.loop-at.at c.loop-at.slots.items c.push.new.self.items c.in-Some.slot
    c.in-Some.ensures c.loop-at.invariant c.in_ok-push.ensures.items
