-- What a tag is, by the last slot that came and its count.
use Rattle.std.specs.Prelude.{◌≡◌, ℕ, suc, List, [], Option, Some, None, ◌==◌, nat_lt, if◌then◌else◌, drop, slice_get, length}
use Rattle.reference_check.specs.Forms.{Slot}
use Rattle.reference_check.specs.Steps.{NextSlot, Slotted, Unknown, Second, OutOfOrder, TooMany, EndOfSlots, NoAlternative, has_room, find_slot, first_lacking, after_order, end_of_slots, choice_end}

-- the slot has the tag
abbrev pub HasTagAt : {P : Type 0} → List (Slot P) → ℕ → List ℕ → Type 0
HasTagAt {P} slots k tag = (s : Slot P) × (slice_get slots k ≡ Some s) × (s.tag ≡ tag)

-- the tag of each slot finds it
abbrev pub AreTagged : {P : Type 0} → List (Slot P) → Type 0
AreTagged {P} slots = (k : ℕ) (s : Slot P) → slice_get slots k ≡ Some s → find_slot 0 slots s.tag ≡ Some k

abbrev pub min_of : {P : Type 0} → Option (Slot P) → ℕ
min_of None = 0
min_of (Some s) = s.min

-- the first slot from the last one on, and before slot k, that lacks some
abbrev pub due : {P : Type 0} → List (Slot P) → ℕ → ℕ → ℕ → Option ℕ
due slots last count k = if nat_lt count (min_of (slice_get slots last)) then Some last else first_lacking (suc last) k (drop (suc last) slots) []

abbrev pub quick_at : {P : Type 0} → List (Slot P) → Option ℕ → ℕ → ℕ → Slot P → NextSlot
quick_at slots None count k s = after_order k (first_lacking 0 k slots [])
quick_at slots (Some l) count k s =
    if nat_lt k l then OutOfOrder
    else (if k == l then (if has_room count s.max then Slotted l else TooMany) else after_order k (due slots l count k))

abbrev pub quick_slot : {P : Type 0} → (ℕ → Slot P → NextSlot) → ℕ → Option (Slot P) → NextSlot
quick_slot At k None = Unknown
quick_slot At k (Some s) = At k s

abbrev pub quick_found : {P : Type 0} → (ℕ → Slot P → NextSlot) → List (Slot P) → Option ℕ → NextSlot
quick_found At slots None = Unknown
quick_found At slots (Some k) = quick_slot At k (slice_get slots k)

abbrev pub quick_sequence_next : {P : Type 0} → List (Slot P) → Option ℕ → ℕ → List ℕ → NextSlot
quick_sequence_next slots last count tag = quick_found (quick_at slots last count) slots (find_slot 0 slots tag)

abbrev pub quick_alternative : {P : Type 0} → Option ℕ → ℕ → ℕ → Slot P → NextSlot
quick_alternative None count k s = Slotted k
quick_alternative (Some l) count k s = if k == l then (if has_room count s.max then Slotted k else TooMany) else Second

abbrev pub quick_choice_next : {P : Type 0} → List (Slot P) → Option ℕ → ℕ → List ℕ → NextSlot
quick_choice_next slots last count tag = quick_found (quick_alternative last count) slots (find_slot 0 slots tag)

abbrev pub quick_sequence_end : {P : Type 0} → List (Slot P) → Option ℕ → ℕ → EndOfSlots
quick_sequence_end slots None count = end_of_slots (first_lacking 0 (length slots) slots [])
quick_sequence_end slots (Some l) count = end_of_slots (due slots l count (length slots))

abbrev pub quick_choice_end : {P : Type 0} → List (Slot P) → Option ℕ → ℕ → EndOfSlots
quick_choice_end slots None count = NoAlternative
quick_choice_end slots (Some l) count = choice_end count l (slice_get slots l)
