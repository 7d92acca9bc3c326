-- The slots before.
use Rattle.std.proofs.Common.{◌≡◌, map, take}
use Rattle.reference_check.specs.Forms.{form_slots}
use Rattle.message_model.specs.Tables.{types_of}
use Rattle.asn1_model.specs.inner.Fields.{slot_in}
use Rattle.asn1_model.proofs.fields.slots_of.Given as goal

abbrev pub invariant-loop-at : goal.invariant-loop-at
invariant-loop-at l = map slot_in l.slots.items ≡ take l.at (form_slots (types_of l.model l.number))
