-- What a slot that is kept is to contracts.
use Rattle.std.specs.Prelude.{ℕ, List, map}
use Rattle.reference_check.specs.Forms.{Slot}
use Rattle.message_model.specs.declared.slot_list.SlotInfo.{SlotInfo}

abbrev pub slot_info : SlotInfo → Slot ℕ
slot_info s = record { tag = s.tag; min = s.min; max = s.max; target = s.target }

abbrev pub slots_view : List SlotInfo → List (Slot ℕ)
slots_view slots = map slot_info slots
