-- Slots, as they are lent.
use Rattle.std.specs.Prelude.{ℕ}
use Rattle.reference_check.specs.Forms as graph
use Rattle.message_model.specs.declared.model.Slot.{Slot}

abbrev pub slot_in : Slot → graph.Slot ℕ
slot_in s = record { tag = s.tag.now; min = s.min; max = s.max; target = s.target }
