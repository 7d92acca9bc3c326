-- Slots of elements whose tags are apart and whose bounds fit.
use Rattle.std.proofs.Common.{◌≡◌, ℕ, zero, suc, ◌+◌, ◌<◌, ◌≤◌, Bool, true, false, cond, List, [], ◌∷◌, length, map, Option, Some, None, refl, sym, ap, subst, ◌∙◌, arith}
use Rattle.std.specs.Prelude.{slice_get, Contains, nat_lt}
use Rattle.std.specs.Str.{bytes_eq}
use Rattle.std.proofs.lemmas.Bool.Decides.{nat_tests}
use Rattle.std.proofs.lemmas.Option.{same_Some}
use Rattle.std.proofs.lemmas.Slice.Eq.{bytes_eq-Decides}
use Rattle.facets.specs.declared.simple.Simple.{Simple}
use Rattle.repo_objects.specs.declared.objects.ElementDef.{ElementDef}
use Rattle.reference_check.specs.Graph.{Place}
use Rattle.reference_check.specs.Rules.{UpToMax}
use Rattle.reference_check.specs.Forms.{Slot, Form, Sequence, Choice, form_slots, form_to, slot_to, text_type}
use Rattle.reference_check.specs.Forms as form
use Rattle.reference_check.specs.Graph.{slot_of}
use Rattle.reference_check.specs.Words.{UpTo}
use Rattle.reference_check.specs.Steps.{find_slot, has_room}
use Rattle.reference_check.proofs.RenamedForms.{get_to, slots_to, form_slot_to}
use Rattle.message_model.specs.Sound.{IsSoundForm, IsNoOption, HasNumber}
use Rattle.message_model.proofs.Compilable.{at_contains}

-- elements that a message may have which breaks no rule
pub record AreSoundElements (es : List ElementDef) : Type 0 where
  pub apart : (i j : ℕ) (a b : ElementDef) → i < j → slice_get es i ≡ Some a → slice_get es j ≡ Some b → a.tag ≡ b.tag → ⊥
  pub bounds : (e : ElementDef) → Contains es e → UpToMax e.min e.max
  pub few : length es ≤ 4096

-- their slots, as forms have them
abbrev pub slots_by : List ElementDef → List (Slot Place)
slots_by es = map (slot_to (λ q. q)) (map slot_of es)

-- the element of a slot
pub slot_from : (es : List ElementDef) (k : ℕ) (s : Slot Place) → slice_get (slots_by es) k ≡ Some s → (e : ElementDef) × (slice_get es k ≡ Some e) × (s ≡ slot_of e)
slot_from [] k s h = absurd cc
slot_from (e ∷ es) zero s h = (e, refl, sym (same_Some (slot_of e) s h))
slot_from (e ∷ es) (suc k) s h = slot_from es k s h

-- a tag that none has before
found : (es : List ElementDef) (base k : ℕ) (e : ElementDef) → slice_get es k ≡ Some e → ((j : ℕ) (a : ElementDef) → j < k → slice_get es j ≡ Some a → a.tag ≡ e.tag → ⊥)
    → find_slot base (slots_by es) e.tag ≡ Some (base + k)
found [] base k e h first = absurd cc
found (a ∷ es) base zero e h first =
    let same : a.tag ≡ e.tag = ap (λ (x : ElementDef). x.tag) (same_Some a e h) in
    let hit : bytes_eq a.tag e.tag ≡ true = (bytes_eq-Decides a.tag e.tag).1 same in
    let number : base ≡ base + 0 = omega arith in
    rw hit (ap Some number)
found (a ∷ es) base (suc k) e h first =
    let miss : bytes_eq a.tag e.tag ≡ false = differ (bytes_eq a.tag e.tag) refl in
    let number : suc base + k ≡ base + suc k = omega arith in
    rw miss (found es (suc base) k e h (λ j b lt g. first (suc j) b (omega arith) g) ∙ ap Some number)
  where
    differ : (b : Bool) → bytes_eq a.tag e.tag ≡ b → bytes_eq a.tag e.tag ≡ false
    differ true t = absurd (first 0 a (omega arith) refl ((bytes_eq-Decides a.tag e.tag).0 t))
    differ false t = t

up_to : (n : ℕ) (max : Option ℕ) → UpToMax n max → UpTo n max
up_to n None h = tt
up_to n (Some top) h = h.0

has_some : (n : ℕ) (max : Option ℕ) → UpToMax n max → has_room 0 max ≡ true
has_some n None h = refl
has_some n (Some top) h = positive top h.1
  where
    positive : (top : ℕ) → 0 < top → nat_lt 0 top ≡ true
    positive top h = grind (arith, nat_tests)

module _ (es : List ElementDef) (sound : AreSoundElements es) where
  pub tags_found : (k : ℕ) (s : Slot Place) → slice_get (slots_by es) k ≡ Some s → find_slot 0 (slots_by es) s.tag ≡ Some k
  tags_found k s h =
      let e = slot_from es k s h in
      let number : 0 + k ≡ k = omega arith in
      ap (λ (x : Slot Place). find_slot 0 (slots_by es) x.tag) e.2 ∙ (found es 0 k e.0 e.1 (λ j a lt g. sound.apart j k a e.0 lt g e.1) ∙ ap Some number)

  fits : (k : ℕ) (s : Slot Place) → slice_get (slots_by es) k ≡ Some s → UpToMax s.min s.max
  fits k s h =
      let e = slot_from es k s h in
      subst (λ (x : Slot Place). UpToMax x.min x.max) (sym e.2) (sound.bounds e.0 (at_contains es e.0 k e.1))

  pub bounds_fit : (k : ℕ) (s : Slot Place) → slice_get (slots_by es) k ≡ Some s → UpTo s.min s.max
  bounds_fit k s h = up_to s.min s.max (fits k s h)

  pub rooms_are : (k : ℕ) (s : Slot Place) → slice_get (slots_by es) k ≡ Some s → has_room 0 s.max ≡ true
  rooms_are k s h = has_some s.min s.max (fits k s h)

  pub slots_short : length (slots_by es) ≤ 4096
  slots_short = subst (λ n. n ≤ 4096) (sym (long es)) sound.few
    where
      long : (es : List ElementDef) → length (slots_by es) ≡ length es
      long [] = refl
      long (e ∷ es) = ap suc (long es)

  pub sequence_sound : IsSoundForm {P = Place} (Sequence (slots_by es))
  sequence_sound = record {
    tags = tags_found;
    bounds = bounds_fit;
    room = rooms_are;
    short = slots_short;
    alternatives = tt;
    number = tt;
    limits = λ simple h. absurd cc;
  }

  pub choice_sound : ((e : ElementDef) → Contains es e → 0 < e.min) → IsSoundForm {P = Place} (Choice (slots_by es))
  choice_sound positive = record {
    tags = tags_found;
    bounds = bounds_fit;
    room = rooms_are;
    short = slots_short;
    alternatives = λ k s h. (let e = slot_from es k s h in subst (λ (x : Slot Place). 0 < x.min) (sym e.2) (positive e.0 (at_contains es e.0 k e.1)));
    number = tt;
    limits = λ simple h. absurd cc;
  }

-- ---- with other names of the types

module _ {P Q : Type 0} (h : P → Q) where
  find_to : (base : ℕ) (slots : List (Slot P)) (tag : List ℕ) → find_slot base (map (slot_to h) slots) tag ≡ find_slot base slots tag
  find_to base [] tag = refl
  find_to base (s ∷ slots) tag = ap (λ o. cond (bytes_eq s.tag tag) (Some base) o) (find_to (suc base) slots tag)

  length_to : (slots : List (Slot P)) → length (map (slot_to h) slots) ≡ length slots
  length_to [] = refl
  length_to (s ∷ slots) = ap suc (length_to slots)

  no_option : (f : Form P Simple) → IsNoOption (form_to h (λ x. x) f) → IsNoOption f
  no_option (form.Sequence slots) all = tt
  no_option (form.Choice slots) all = λ k s at. all k (slot_to h s) (get_to h slots k s at)
  no_option (form.Simple s) all = tt
  no_option (form.Money c s) all = tt
  no_option form.Envelope all = tt
  no_option form.LeftOut all = tt
  no_option form.Missing all = tt

  has_number : (f : Form P Simple) → HasNumber (form_to h (λ x. x) f) → HasNumber f
  has_number (form.Money c s) is = is
  has_number (form.Sequence slots) is = tt
  has_number (form.Choice slots) is = tt
  has_number (form.Simple s) is = tt
  has_number form.Envelope is = tt
  has_number form.LeftOut is = tt
  has_number form.Missing is = tt

  text_to : (f : Form P Simple) → text_type (form_to h (λ x. x) f) ≡ text_type f
  text_to (form.Sequence slots) = refl
  text_to (form.Choice slots) = refl
  text_to (form.Simple s) = refl
  text_to (form.Money c s) = refl
  text_to form.Envelope = refl
  text_to form.LeftOut = refl
  text_to form.Missing = refl

  -- a form is sound where it is so with other names of the types
  pub sound_from : (f : Form P Simple) → IsSoundForm (form_to h (λ x. x) f) → IsSoundForm f
  sound_from f sound = record {
    tags = λ k s at. sym (find_to 0 (form_slots f) s.tag) ∙ (ap (λ xs. find_slot 0 xs s.tag) (sym (slots_to h (λ x. x) f)) ∙ sound.tags k (slot_to h s) (form_slot_to h (λ x. x) f k s at));
    bounds = λ k s at. sound.bounds k (slot_to h s) (form_slot_to h (λ x. x) f k s at);
    room = λ k s at. sound.room k (slot_to h s) (form_slot_to h (λ x. x) f k s at);
    short = subst (λ n. n ≤ 4096) (ap length (slots_to h (λ x. x) f) ∙ length_to (form_slots f)) sound.short;
    alternatives = no_option f sound.alternatives;
    number = has_number f sound.number;
    limits = λ simple is. sound.limits simple (text_to f ∙ is);
  }
