-- Whether one more tag, or the end, may come after the slots that have come, and which question is the first to say no.
use Rattle.std.specs.Prelude.{◌≡◌, ℕ, suc, Bool, true, List, [], ◌∷◌, ◌++◌, Option, Some, None, ◌==◌, nat_lt, if◌then◌else◌, length, slice_get}
use Rattle.std.specs.List.{list_any}
use Rattle.std.specs.Str.{bytes_eq}
use Rattle.reference_check.specs.Forms.{Slot, Form, Sequence, Choice, form_slots}
use Rattle.reference_check.specs.Words.{times}

pub data NextSlot : Type 0 where
  Slotted : (slot : ℕ) → NextSlot
  Unknown : NextSlot
  OutOfOrder : NextSlot
  TooMany : NextSlot
  Missing : (slot : ℕ) → NextSlot
  Second : NextSlot

pub data EndOfSlots : Type 0 where
  Fine : EndOfSlots
  Lacks : (slot : ℕ) → EndOfSlots
  NoAlternative : EndOfSlots

-- the first slot of this tag; the list begins with slot k
abbrev pub find_slot : {P : Type 0} → ℕ → List (Slot P) → List ℕ → Option ℕ
find_slot k [] tag = None
find_slot k (s ∷ slots) tag = if bytes_eq s.tag tag then Some k else find_slot (suc k) slots tag

-- one more may come after n
abbrev pub has_room : ℕ → Option ℕ → Bool
has_room n None = true
has_room n (Some max) = nat_lt n max

-- the first slot below the bound that has not come as often as it must; the list begins with slot k
abbrev pub first_lacking : {P : Type 0} → ℕ → ℕ → List (Slot P) → List ℕ → Option ℕ
first_lacking k bound [] d = None
first_lacking k bound (s ∷ slots) d =
    if nat_lt k bound then (if nat_lt (times k d) s.min then Some k else first_lacking (suc k) bound slots d) else None

abbrev pub after_order : ℕ → Option ℕ → NextSlot
after_order k None = Slotted k
after_order k (Some j) = Missing j

-- in a sequence: no later slot has come, the slot has room, and each earlier slot has its minimum
abbrev pub sequence_next : {P : Type 0} → List (Slot P) → List ℕ → ℕ → Slot P → NextSlot
sequence_next slots d k s =
    if list_any (λ j. nat_lt k j) d then OutOfOrder
    else (if has_room (times k d) s.max then after_order k (first_lacking 0 k slots d) else TooMany)

-- in a choice: nothing has come, or the same alternative, which has room
abbrev pub choice_next : {P : Type 0} → List ℕ → ℕ → Slot P → NextSlot
choice_next [] k s = Slotted k
choice_next (j ∷ d) k s = if j == k then (if has_room (times k (j ∷ d)) s.max then Slotted k else TooMany) else Second

abbrev pub next_of : {P L : Type 0} → Form P L → List ℕ → ℕ → Slot P → NextSlot
next_of (Sequence slots) d k s = sequence_next slots d k s
next_of (Choice slots) d k s = choice_next d k s
next_of _ d k s = Unknown

abbrev pub next_at : {P L : Type 0} → Form P L → List ℕ → ℕ → Option (Slot P) → NextSlot
next_at form d k None = Unknown
next_at form d k (Some s) = next_of form d k s

abbrev pub next_found : {P L : Type 0} → Form P L → List (Slot P) → List ℕ → Option ℕ → NextSlot
next_found form slots d None = Unknown
next_found form slots d (Some k) = next_at form d k (slice_get slots k)

-- what the tag is, where the slots d have come
abbrev pub next : {P L : Type 0} → Form P L → List ℕ → List ℕ → NextSlot
next form d tag = next_found form (form_slots form) d (find_slot 0 (form_slots form) tag)

abbrev pub end_of_slots : Option ℕ → EndOfSlots
end_of_slots None = Fine
end_of_slots (Some k) = Lacks k

-- an alternative below its minimum is told by its tag, since it has come
abbrev pub choice_end : {P : Type 0} → ℕ → ℕ → Option (Slot P) → EndOfSlots
choice_end n k None = NoAlternative
choice_end n k (Some s) = if nat_lt n s.min then Lacks k else Fine

-- whether the end may come, where the slots d have come; what is no sequence and no choice has no end here
abbrev pub end_after : {P L : Type 0} → Form P L → List ℕ → EndOfSlots
end_after (Sequence slots) d = end_of_slots (first_lacking 0 (length slots) slots d)
end_after (Choice slots) [] = NoAlternative
end_after (Choice slots) (k ∷ d) = choice_end (times k (k ∷ d)) k (slice_get slots k)
end_after _ d = NoAlternative

-- these slots came one after the other behind those before, and none said no as it came
abbrev pub CameAfter : {P L : Type 0} → Form P L → List ℕ → List ℕ → Type 0
CameAfter form before [] = Unit {0}
CameAfter {P} form before (k ∷ d) =
    ((s : Slot P) × (slice_get (form_slots form) k ≡ Some s) × (next_of form before k s ≡ Slotted k)) × CameAfter form (before ++ k ∷ []) d

abbrev pub Came : {P L : Type 0} → Form P L → List ℕ → Type 0
Came form d = CameAfter form [] d

-- the last slot that came, and how often it stands there
abbrev pub EndsWith : List ℕ → Option ℕ → ℕ → Type 0
EndsWith d None count = (d ≡ []) × (count ≡ 0)
EndsWith d (Some k) count = (before : List ℕ) × (d ≡ before ++ k ∷ []) × (times k d ≡ count)
