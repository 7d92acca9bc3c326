-- The slots so far have been counted.
use Rattle.std.proofs.Common.{◌≡◌, ◌+◌, ◌-◌, ◌*◌, ◌≤◌, length}
use Rattle.reference_check.specs.Forms.{form_slots}
use Rattle.message_model.specs.Tables.{types_of}
use Rattle.der_writer.proofs.EmptySlots.{empty_from}
use Rattle.der_writer.proofs.slots.empty_size.Given as goal

abbrev pub invariant-loop-next : goal.invariant-loop-next
invariant-loop-next l = record {
  all : l.size + length (empty_from l.next l.fn.to (form_slots (types_of l.fn.model l.fn.number))) ≡ length (empty_from l.fn.from l.fn.to (form_slots (types_of l.fn.model l.fn.number)));
  most : l.size + 12 * (4096 - l.next) ≤ 49152;
}

abbrev pub decreases-loop-next : goal.decreases-loop-next
decreases-loop-next l = l.fn.to - l.next
