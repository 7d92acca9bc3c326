-- Slots in which nothing has come, one after the other.
use Rattle.std.proofs.Common.{◌≡◌, ℕ, zero, suc, ◌+◌, ◌-◌, ◌≤◌, ◌<◌, List, [], ◌∷◌, ◌++◌, length, take, drop, Some, None, ◌⊎◌, inl, inr, Option, true, refl, sym, ap, ap₂, ◌∙◌, arith, length-drop}
use Rattle.std.specs.Prelude.{slice_get, get_or}
use Rattle.std.proofs.lemmas.Bool.{cases_lt, cond-true}
use Rattle.std.proofs.lemmas.Bool.Decides.{nat_tests}
use Rattle.std.proofs.lemmas.Option.{slice_get_within, slice_get_cases}
use Rattle.std.proofs.lemmas.List.{take_all}
use Rattle.std.proofs.Math.ListN.{drop_of_length-le}
use Rattle.facets.specs.declared.simple.Simple.{Simple}
use Rattle.reference_check.specs.Forms.{Slot, Form, form_slots}
use Rattle.reference_check.specs.Forms as form
use Rattle.message_model.specs.declared.model.Slot.{Slot as Told}
use Rattle.message_model.specs.Options.{AreOptions, IsFirmAt, is_option}
use Rattle.der_model.specs.Structures.{is_single}
use Rattle.der_model.proofs.BegunSlots.{drop_get}
use Rattle.der_writer.specs.inner.PieceOctets.{empty_slot, empty_slots, sequence_slots}

-- those from slot k on and before another
abbrev pub empty_from : ℕ → ℕ → List (Slot ℕ) → List ℕ
empty_from k to slots = empty_slots k (take (to - k) (drop k slots))

pub empty_more : (k to : ℕ) (slots : List (Slot ℕ)) (s : Slot ℕ) → k < to → slice_get slots k ≡ Some s → empty_from k to slots ≡ empty_slot k s ++ empty_from (k + 1) to slots
empty_more k to slots s l found =
    let left : to - k ≡ suc (to - suc k) = omega arith in
    let next : suc k ≡ k + 1 = omega arith in
    ap₂ (λ c xs. empty_slots k (take c xs)) left (drop_get slots k s found) ∙ ap (λ z. empty_slot k s ++ empty_slots z (take (to - z) (drop z slots))) next

drop_none : {A : Type 0} (xs : List A) (k : ℕ) → slice_get xs k ≡ None → drop k xs ≡ []
drop_none [] zero e = refl
drop_none [] (suc k) e = refl
drop_none (x ∷ xs) zero e = absurd cc
drop_none (x ∷ xs) (suc k) e = drop_none xs k e

take_none : (c : ℕ) → ◌≡◌ {A = List (Slot ℕ)} (take c []) []
take_none zero = refl
take_none (suc c) = refl

-- no slot stands before one that is not behind it
pub empty_between : (k to : ℕ) (slots : List (Slot ℕ)) → to ≤ k → [] ≡ empty_slots k (take (to - k) slots)
empty_between k to slots l = (let none : 0 ≡ to - k = omega arith in ap (λ c. empty_slots k (take c slots)) none)

pub empty_beyond : (k to : ℕ) (slots : List (Slot ℕ)) → length slots ≤ k → empty_from k to slots ≡ []
empty_beyond k to slots l = ap (λ xs. empty_slots k (take (to - k) xs)) (drop_of_length-le slots l) ∙ ap (empty_slots k) (take_none (to - k))

empty_option : (k : ℕ) (s : Slot ℕ) → is_option s ≡ true → empty_slot k s ≡ []
empty_option k s e = cond-true (is_single s) _ _ (by s.tag s.min s.max s.target e)
  where
    by : (tag : List ℕ) (min : ℕ) (max : Option ℕ) (target : ℕ) → (let s : Slot ℕ = record { tag = tag; min = min; max = max; target = target } in is_option s ≡ true → is_single s ≡ true)
    by tag min None target e = grind (arith, nat_tests)
    by tag min (Some most) target e = grind (arith, nat_tests)

-- options in which nothing has come are passed over
pass_options : (d k at to : ℕ) (slots : List (Slot ℕ)) → k + d ≡ at → at ≤ to → AreOptions slots k at → empty_from k to slots ≡ empty_from at to slots
pass_options zero k at to slots e low options = (let same : k ≡ at = omega arith in ap (λ z. empty_from z to slots) same)
pass_options (suc d) k at to slots e low options = by (slice_get_cases slots k) (λ s. pass_options d (k + 1) at to slots (omega arith) low s)
  where
    by : (slice_get slots k ≡ slice_get slots k) × (((s : Slot ℕ) × (k < length slots) × (slice_get slots k ≡ Some s) × (get_or slots k s ≡ s)) ⊎ ((length slots ≤ k) × (slice_get slots k ≡ None)))
        → (AreOptions slots (k + 1) at → empty_from (k + 1) to slots ≡ empty_from at to slots) → empty_from k to slots ≡ empty_from at to slots
    by (same, inl (s, below, is, here)) later =
        empty_more k to slots s (omega arith) is
        ∙ (ap (λ z. z ++ empty_from (k + 1) to slots) (empty_option k s (options k s (omega arith) (omega arith) is))
        ∙ later (λ i x above high found. options i x (omega arith) high found))
    by (same, inr (beyond, none)) later = empty_beyond k to slots beyond ∙ sym (empty_beyond at to slots (omega arith))

pub empty_options : (k at to : ℕ) (slots : List (Slot ℕ)) → k ≤ at → at ≤ to → AreOptions slots k at → empty_from k to slots ≡ empty_from at to slots
empty_options k at to slots low high options = pass_options (at - k) k at to slots (omega arith) high options

-- the first slot that is no option is the first for which something may stand
pub empty_firm : (k at to : ℕ) (slots : List (Slot ℕ)) (s : Slot ℕ) → IsFirmAt slots k at → at < to → slice_get slots at ≡ Some s → empty_from k to slots ≡ empty_slot at s ++ empty_from (at + 1) to slots
empty_firm k at to slots s h high is = empty_options k at to slots h.above (omega arith) h.first ∙ empty_more at to slots s high is

-- nothing stands where each slot is an option
pub empty_all : (k to : ℕ) (slots : List (Slot ℕ)) → AreOptions slots k to → empty_from k to slots ≡ []
empty_all k to slots options = elim (cases_lt k to) [
  | inl before ↦ empty_options k to to slots (omega arith) (omega arith) options ∙ sym (empty_between to to (drop to slots) (omega arith))
  | inr behind ↦ sym (empty_between k to (drop k slots) behind)
]

pub empty_before : (k at to : ℕ) (slots : List (Slot ℕ)) → IsFirmAt slots k at → to ≤ at → empty_from k to slots ≡ []
empty_before k at to slots h past = empty_all k to slots (λ i s low high e. h.first i s low (omega arith) e)

pub empty_never : (k to : ℕ) (slots : List (Slot ℕ)) → AreOptions slots k (length slots) → empty_from k to slots ≡ []
empty_never k to slots options = empty_all k to slots (λ i s low high e. options i s low (slice_get_within slots i s e) e)

-- the slot that is told
abbrev pub told : Told → Slot ℕ
told t = record { tag = t.tag.now; min = t.min; max = t.max; target = t.target }

-- all slots behind are before one that is past them
pub all_taken : {A : Type 0} (xs : List A) (from top : ℕ) → length xs ≤ top → take (top - from) (drop from xs) ≡ drop from xs
all_taken xs from top l = (let size = length-drop from xs in take_all (top - from) (drop from xs) (omega (arith, size)))

drop_nil : (k : ℕ) → ◌≡◌ {A = List (Slot ℕ)} (drop k []) []
drop_nil zero = refl
drop_nil (suc k) = refl

-- no slot stands from one on that the type has not
pub rest_none : (f : Form ℕ Simple) (k : ℕ) → slice_get (form_slots f) k ≡ None → [] ≡ empty_slots k (drop k (sequence_slots f))
rest_none (form.Sequence slots) k none = sym (ap (empty_slots k) (drop_none slots k none))
rest_none (form.Choice slots) k none = sym (ap (empty_slots k) (drop_nil k))
rest_none (form.Simple simple) k none = sym (ap (empty_slots k) (drop_nil k))
rest_none (form.Money code number) k none = sym (ap (empty_slots k) (drop_nil k))
rest_none form.Envelope k none = sym (ap (empty_slots k) (drop_nil k))
rest_none form.LeftOut k none = sym (ap (empty_slots k) (drop_nil k))
rest_none form.Missing k none = sym (ap (empty_slots k) (drop_nil k))

-- nor behind all that it has
pub rest_past : (f : Form ℕ Simple) (k : ℕ) → length (form_slots f) ≤ k → [] ≡ empty_slots k (drop k (sequence_slots f))
rest_past (form.Sequence slots) k l = sym (ap (empty_slots k) (drop_of_length-le slots l))
rest_past (form.Choice slots) k l = sym (ap (empty_slots k) (drop_nil k))
rest_past (form.Simple simple) k l = sym (ap (empty_slots k) (drop_nil k))
rest_past (form.Money code number) k l = sym (ap (empty_slots k) (drop_nil k))
rest_past form.Envelope k l = sym (ap (empty_slots k) (drop_nil k))
rest_past form.LeftOut k l = sym (ap (empty_slots k) (drop_nil k))
rest_past form.Missing k l = sym (ap (empty_slots k) (drop_nil k))
