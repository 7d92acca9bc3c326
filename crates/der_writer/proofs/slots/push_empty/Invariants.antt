-- The slots so far went through.
use Rattle.std.proofs.Common.{◌-◌}
use Rattle.outside.proofs.PushedFronts.{IsPushedTo}
use Rattle.reference_check.specs.Forms.{form_slots}
use Rattle.message_model.specs.Tables.{types_of}
use Rattle.der_writer.proofs.EmptySlots.{empty_from}
use Rattle.der_writer.proofs.slots.push_empty.Given as goal

abbrev pub invariant-loop-next : goal.invariant-loop-next
invariant-loop-next g l =
    IsPushedTo g.O.Sink.held g.O.Sink.faults g.O.Sink.room l.fn.sink l.sink (empty_from l.fn.from l.fn.to (form_slots (types_of l.fn.model l.fn.number))) (empty_from l.next l.fn.to (form_slots (types_of l.fn.model l.fn.number)))

abbrev pub decreases-loop-next : goal.decreases-loop-next
decreases-loop-next g l = l.fn.to - l.next
