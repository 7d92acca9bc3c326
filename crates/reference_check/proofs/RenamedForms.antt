-- Forms whose types have other names: their slots, and the words of these.
use Rattle.std.proofs.Common.{◌≡◌, ℕ, zero, suc, List, [], ◌∷◌, length, map, Some, refl, sym, ap, ◌∙◌}
use Rattle.std.specs.Prelude.{slice_get}
use Rattle.reference_check.specs.Forms.{Form, Slot, form_slots, slot_to, form_to}
use Rattle.reference_check.specs.Forms as form
use Rattle.reference_check.specs.Words.{times, MayComeTimes, IsSequence, IsChoice}

pub get_to : {P Q : Type 0} (h : P → Q) (slots : List (Slot P)) (k : ℕ) (s : Slot P) → slice_get slots k ≡ Some s → slice_get (map (slot_to h) slots) k ≡ Some (slot_to h s)
get_to h [] k s e = absurd cc
get_to h (x ∷ slots) zero s e = (let same : x ≡ s = cc in rw same refl)
get_to h (x ∷ slots) (suc k) s e = get_to h slots k s e

pub get_from : {P Q : Type 0} (h : P → Q) (slots : List (Slot P)) (k : ℕ) (t : Slot Q) → slice_get (map (slot_to h) slots) k ≡ Some t → (s : Slot P) × (slice_get slots k ≡ Some s) × (t ≡ slot_to h s)
get_from h [] k t e = absurd cc
get_from h (x ∷ slots) zero t e = (let same : slot_to h x ≡ t = cc in (x, refl, sym same))
get_from h (x ∷ slots) (suc k) t e = get_from h slots k t e

length_to : {P Q : Type 0} (h : P → Q) (slots : List (Slot P)) → length (map (slot_to h) slots) ≡ length slots
length_to h [] = refl
length_to h (x ∷ slots) = ap suc (length_to h slots)

pub sequence_to : {P Q : Type 0} (h : P → Q) (slots : List (Slot P)) (d : List ℕ) → IsSequence slots d → IsSequence (map (slot_to h) slots) d
sequence_to {P} {Q} h slots d w = record { ordered = rw (length_to h slots) w.ordered; within = each }
  where
    each : (k : ℕ) (t : Slot Q) → slice_get (map (slot_to h) slots) k ≡ Some t → MayComeTimes (times k d) t
    each k t e = (let r : (s : Slot P) × (slice_get slots k ≡ Some s) × (t ≡ slot_to h s) = get_from h slots k t e in rw r.2 (w.within k r.0 r.1))

pub sequence_from : {P Q : Type 0} (h : P → Q) (slots : List (Slot P)) (d : List ℕ) → IsSequence (map (slot_to h) slots) d → IsSequence slots d
sequence_from h slots d w = record { ordered = rw (length_to h slots) at w.ordered; within = λ k s e. w.within k (slot_to h s) (get_to h slots k s e) }

pub choice_to : {P Q : Type 0} (h : P → Q) (slots : List (Slot P)) (d : List ℕ) → IsChoice slots d → IsChoice (map (slot_to h) slots) d
choice_to h slots d (k, n, s, found, within, e) = (k, n, slot_to h s, get_to h slots k s found, within, e)

pub choice_from : {P Q : Type 0} (h : P → Q) (slots : List (Slot P)) (d : List ℕ) → IsChoice (map (slot_to h) slots) d → IsChoice slots d
choice_from {P} h slots d (k, n, t, found, within, e) =
    let r : (s : Slot P) × (slice_get slots k ≡ Some s) × (t ≡ slot_to h s) = get_from h slots k t found in
    (k, n, r.0, r.1, rw r.2 at within, e)

-- the slots of a form
pub slots_to : {P Q L M : Type 0} (h : P → Q) (l : L → M) (f : Form P L) → form_slots (form_to h l f) ≡ map (slot_to h) (form_slots f)
slots_to h l (form.Sequence slots) = refl
slots_to h l (form.Choice slots) = refl
slots_to h l (form.Simple facets) = refl
slots_to h l (form.Money code number) = refl
slots_to h l form.Envelope = refl
slots_to h l form.LeftOut = refl
slots_to h l form.Missing = refl

pub form_slot_to : {P Q L M : Type 0} (h : P → Q) (l : L → M) (f : Form P L) (k : ℕ) (s : Slot P) → slice_get (form_slots f) k ≡ Some s → slice_get (form_slots (form_to h l f)) k ≡ Some (slot_to h s)
form_slot_to h l f k s at = ap (λ xs. slice_get xs k) (slots_to h l f) ∙ get_to h (form_slots f) k s at
