-- What the types of a message are that breaks no rule of the repository, and what the words of their slots then are to the steps.
use Rattle.std.specs.Prelude.{◌≡◌, ℕ, ◌<◌, ◌≤◌, ◌+◌, ◌==◌, if◌then◌else◌, true, List, [], ◌∷◌, ◌++◌, Option, Some, None, slice_get, length}
use Rattle.data_types.specs.declared.kind.Kind.TheVariants as kind
use Rattle.facets.specs.declared.simple.Simple.{Simple}
use Rattle.facets.specs.LeafChecks.{IsWithinLimits}
use Rattle.facets.specs.LeafUnder.{HasSortedCodes}
use Rattle.reference_check.specs.Forms.{Graph, Form, Slot, Sequence, Choice, Money, form_slots, text_type}
use Rattle.reference_check.specs.Forms.{Simple as SimpleForm}
use Rattle.reference_check.specs.Words.{UpTo, IsWordOf}
use Rattle.reference_check.specs.Steps.{Slotted, Fine, find_slot, has_room, next, next_of, end_after, Came, EndsWith}
use Rattle.message_model.specs.Tables.{Tables, types_of}

-- an alternative of a choice comes at least once
abbrev pub IsNoOption : {P L : Type 0} → Form P L → Type 0
IsNoOption {P} (Choice slots) = (k : ℕ) (s : Slot P) → slice_get slots k ≡ Some s → 0 < s.min
IsNoOption _ = Unit {0}

-- an amount has a number
abbrev pub HasNumber : {P : Type 0} → Form P Simple → Type 0
HasNumber (Money code number) = number.kind ≡ kind.Decimal
HasNumber _ = Unit {0}

-- No tag stands twice, no minimum is above its maximum, no maximum is 0, there are no more than 4,096 elements, alternatives are not optional, an amount has a number, and a text's facets are within what a check can count.
pub record IsSoundForm {P : Type 0} (form : Form P Simple) : Type 0 where
  pub tags : (k : ℕ) (s : Slot P) → slice_get (form_slots form) k ≡ Some s → find_slot 0 (form_slots form) s.tag ≡ Some k
  pub bounds : (k : ℕ) (s : Slot P) → slice_get (form_slots form) k ≡ Some s → UpTo s.min s.max
  pub room : (k : ℕ) (s : Slot P) → slice_get (form_slots form) k ≡ Some s → has_room 0 s.max ≡ true
  pub short : length (form_slots form) ≤ 4096
  pub alternatives : IsNoOption form
  pub number : HasNumber form
  pub limits : (simple : Simple) → text_type form ≡ Some simple → IsWithinLimits simple

abbrev pub AreSound : {P : Type 0} → Graph P Simple → Type 0
AreSound {P} forms = (p : P) → IsSoundForm (forms p)

-- the code of each amount is of a simple type
abbrev pub HaveCodes : {P : Type 0} → Graph P Simple → Type 0
HaveCodes {P} forms = (p code : P) (number : Simple) → forms p ≡ Money code number → (simple : Simple) × (forms code ≡ SimpleForm simple)

-- the codes of each type are sorted
abbrev pub HaveSortedCodes : {P : Type 0} → Graph P Simple → Type 0
HaveSortedCodes {P} forms = (p : P) (simple : Simple) → text_type (forms p) ≡ Some simple → HasSortedCodes simple

-- type 0, that of `Document`, is a sequence
abbrev pub HasRoot : Graph ℕ Simple → Type 0
HasRoot forms = (slots : List (Slot ℕ)) × (forms 0 ≡ Sequence slots)

-- each element leads to a type that is there
abbrev pub AreLinked : Tables → Type 0
AreLinked T = (n k : ℕ) (s : Slot ℕ) → slice_get (form_slots (types_of T n)) k ≡ Some s → s.target < length T.types

-- A tag finds its slot; a slot with which some word goes on may come; the end may come behind a word, and there alone, where the slots came one by one.
pub record Agrees {P : Type 0} (form : Form P Simple) : Type 0 where
  pub tagged : (k : ℕ) (s : Slot P) → slice_get (form_slots form) k ≡ Some s → find_slot 0 (form_slots form) s.tag ≡ Some k
  pub goes_on : (d e : List ℕ) (k : ℕ) (s : Slot P) → slice_get (form_slots form) k ≡ Some s → IsWordOf form (d ++ k ∷ e) → next_of form d k s ≡ Slotted k
  pub ends : (d : List ℕ) → IsWordOf form d → end_after form d ≡ Fine
  pub whole : (d : List ℕ) → Came form d → end_after form d ≡ Fine → IsWordOf form d

-- of the numbered types of a message
abbrev pub SoundFormsAgree : Type 0
SoundFormsAgree = (form : Form ℕ Simple) → IsSoundForm form → Agrees form

-- how often the slot then stands there
abbrev pub count_with : Option ℕ → ℕ → ℕ → ℕ
count_with None count k = 1
count_with (Some l) count k = if l == k then count + 1 else 1

-- Where the tag is that of slot k, which may come, then the slots have come with it, and it is the last.
abbrev pub SlotComes : Type 0
SlotComes = (form : Form ℕ Simple) (d : List ℕ) (last : Option ℕ) (count : ℕ) (tag : List ℕ) (k : ℕ) → IsSoundForm form → Came form d → EndsWith d last count → next form d tag ≡ Slotted k
    → Came form (d ++ k ∷ []) × EndsWith (d ++ k ∷ []) (Some k) (count_with last count k)
