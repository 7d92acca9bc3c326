-- The first slot that is due behind the last one.
use Rattle.std.proofs.Common.{None, Option, subst, Bool, true, ◌≡◌, ℕ, zero, suc, false, ◌+◌, ◌<◌, List, [], ◌∷◌, length, map, get_or, arith, drop, Some, refl, sym, ap, ◌∙◌, add-one}
use Rattle.std.specs.Prelude.{slice_get, nat_lt, ◌≤◌}
use Rattle.std.proofs.Math.ListN.{drop_of_length-le}
use Rattle.std.proofs.lemmas.Option.{slice_get-get_or, slice_get-map}
use Rattle.std.proofs.lemmas.Bool.Decides.{nat_tests}
use Rattle.std.specs.Option.{option_map}
use Rattle.std.specs.Str.{bytes_eq}
use Rattle.facets.specs.declared.simple.Simple.{Simple}
use Rattle.reference_check.specs.Forms.{Slot, Form, Missing}
use Rattle.reference_check.specs.Steps.{Unknown, NextSlot, EndOfSlots, Fine, NoAlternative, Came, EndsWith, next, end_after, end_of_slots, find_slot, first_lacking}
use Rattle.message_model.specs.Tables.{Tables, types_of, form_or_missing}
use Rattle.message_model.specs.declared.model.TypeInfo.{TypeInfo}
use Rattle.message_model.specs.inner.Quick.{due, quick_at, quick_sequence_next, quick_choice_next, quick_sequence_end, quick_choice_end}
use Rattle.message_model.specs.Views.{slot_info, slots_view, layout_form, tables_from, type_entry}
use Rattle.message_model.specs.Sound.{IsSoundForm, AreSound}
use Rattle.message_model.specs.declared.model.Layout.{Layout}
use Rattle.message_model.specs.declared.model.Layout.TheVariants as layout
use Rattle.message_model.proofs.QuickSteps.{sequence_steps, choice_steps, sequence_ends, choice_ends}
use Rattle.message_model.specs.declared.slot_list.SlotInfo.{SlotInfo}
use Rattle.message_model.proofs.Ahead.{length_view}
use Rattle.message_model.proofs.Views.{drop_view}

get_here : (slots : List SlotInfo) (i : ℕ) (d : SlotInfo) → i < length slots → slice_get slots i ≡ Some (get_or slots i d)
get_here [] i d h = absurd (omega (arith, h))
get_here (s ∷ slots) zero d h = refl
get_here (s ∷ slots) (suc i) d h = get_here slots i d (omega (arith, h))

pub due_step : (slots : List SlotInfo) (last count to : ℕ) (d : SlotInfo) → last < length slots → nat_lt count (get_or slots last d).min ≡ false → first_lacking (last + 1) to (slots_view (drop (last + 1) slots)) [] ≡ due (slots_view slots) last count to
due_step slots last count to d below enough =
    let at = slice_get-map slot_info slots last ∙ ap (option_map slot_info) (get_here slots last d below) in
    rw (at, enough, drop_view (last + 1) slots, add-one) refl

-- a tag that is found is that of a slot
pub found_at : (slots : List SlotInfo) (k at : ℕ) (tag : List ℕ) → find_slot k (slots_view slots) tag ≡ Some at → (i : ℕ) × (at ≡ k + i) × (i < length slots) × ((s : Slot ℕ) × (slice_get (slots_view slots) i ≡ Some s))
found_at [] k at tag e = cc
found_at (x ∷ slots) k at tag e = go (bytes_eq x.tag tag) refl (found_at slots (suc k) at tag)
  where
    go : (b : Bool) → bytes_eq x.tag tag ≡ b → (find_slot (suc k) (slots_view slots) tag ≡ Some at → (i : ℕ) × (at ≡ suc k + i) × (i < length slots) × ((s : Slot ℕ) × (slice_get (slots_view slots) i ≡ Some s))) → (i : ℕ) × (at ≡ k + i) × (i < length (x ∷ slots)) × ((s : Slot ℕ) × (slice_get (slots_view (x ∷ slots)) i ≡ Some s))
    go true h later = (let same : Some k ≡ Some at = rw h at e in let here : k ≡ at = cc in (0, omega arith, omega arith, (slot_info x, refl)))
    go false h later = (let r = later (rw h at e) in (suc r.0, omega (arith, r.1), omega (arith, r.2), r.3))

pub found_below : (slots : List SlotInfo) (at : ℕ) (tag : List ℕ) → find_slot 0 (slots_view slots) tag ≡ Some at → at < length slots
found_below slots at tag e = (let r = found_at slots 0 at tag e in omega (arith, r.1, r.2))

pub found_slot : (slots : List SlotInfo) (at : ℕ) (tag : List ℕ) → find_slot 0 (slots_view slots) tag ≡ Some at → (s : Slot ℕ) × (slice_get (slots_view slots) at ≡ Some s)
found_slot slots at tag e = go (found_at slots 0 at tag e)
  where
    go : ((i : ℕ) × (at ≡ 0 + i) × (i < length slots) × ((s : Slot ℕ) × (slice_get (slots_view slots) i ≡ Some s))) → (s : Slot ℕ) × (slice_get (slots_view slots) at ≡ Some s)
    go (i, here, below, (s, g)) = (let same : i ≡ at = omega (arith, here) in (s, ap (slice_get (slots_view slots)) (sym same) ∙ g))

pub steps_at : (slots : List (Slot ℕ)) (last : Option ℕ) (count at : ℕ) (tag : List ℕ) (s : Slot ℕ) (x : NextSlot) → find_slot 0 slots tag ≡ Some at → slice_get slots at ≡ Some s → x ≡ quick_at slots last count at s → x ≡ quick_sequence_next slots last count tag
steps_at slots last count at tag s x e g h = rw (e, g) h

-- by the layout
pub layout_sequence : (l : Layout) (slots view : List SlotInfo) (last : Option ℕ) (count : ℕ) (tag : List ℕ) (x : NextSlot) → l ≡ layout.Sequence slots → view ≡ slots → IsSoundForm (layout_form l) → x ≡ quick_sequence_next (slots_view view) last count tag
    → (d : List ℕ) → Came (layout_form l) d → EndsWith d last count → x ≡ next (layout_form l) d tag
layout_sequence l slots view last count tag x e v sound h d came ends =
    subst (λ (y : Layout). IsSoundForm (layout_form y) → Came (layout_form y) d → x ≡ next (layout_form y) d tag) (sym e)
    (λ sound came. (h ∙ ap (λ y. quick_sequence_next (slots_view y) last count tag) v) ∙ sequence_steps (slots_view slots) d last count tag sound came ends) sound came

pub layout_choice : (l : Layout) (slots view : List SlotInfo) (last : Option ℕ) (count : ℕ) (tag : List ℕ) (x : NextSlot) → l ≡ layout.Choice slots → view ≡ slots → IsSoundForm (layout_form l) → x ≡ quick_choice_next (slots_view view) last count tag
    → (d : List ℕ) → Came (layout_form l) d → EndsWith d last count → x ≡ next (layout_form l) d tag
layout_choice l slots view last count tag x e v sound h d came ends =
    subst (λ (y : Layout). IsSoundForm (layout_form y) → Came (layout_form y) d → x ≡ next (layout_form y) d tag) (sym e)
    (λ sound came. (h ∙ ap (λ y. quick_choice_next (slots_view y) last count tag) v) ∙ choice_steps (slots_view slots) d last count tag sound came ends) sound came

-- the form of a type that is there
pub form_found : (id : List ℕ) (ts : List TypeInfo) (n : ℕ) (t : TypeInfo) (T : Tables) → tables_from id (map type_entry ts) ≡ T → slice_get ts n ≡ Some t → types_of T n ≡ layout_form t.layout
form_found id ts n t T v e = rw (← v) (ap form_or_missing (slice_get-map type_entry ts n ∙ ap (option_map type_entry) e))

pub form_none : (id : List ℕ) (ts : List TypeInfo) (n : ℕ) (T : Tables) → tables_from id (map type_entry ts) ≡ T → slice_get ts n ≡ None → types_of T n ≡ Missing
form_none id ts n T v e = rw (← v) (ap form_or_missing (slice_get-map type_entry ts n ∙ ap (option_map type_entry) e))

-- what holds at the type's form
pub sound_at : (id : List ℕ) (ts : List TypeInfo) (n : ℕ) (t : TypeInfo) → AreSound (types_of (tables_from id (map type_entry ts))) → slice_get ts n ≡ Some t → IsSoundForm (layout_form t.layout)
sound_at id ts n t sound e = subst (λ (f : Form ℕ Simple). IsSoundForm f) (form_found id ts n t (tables_from id (map type_entry ts)) refl e) (sound n)

pub next_found : (f g : Form ℕ Simple) (last : Option ℕ) (count : ℕ) (tag : List ℕ) (x : NextSlot) → f ≡ g → ((d : List ℕ) → Came g d → EndsWith d last count → x ≡ next g d tag) → (d : List ℕ) → Came f d → EndsWith d last count → x ≡ next f d tag
next_found f g last count tag x e h d came ends = subst (λ (y : Form ℕ Simple). Came y d → x ≡ next y d tag) (sym e) (λ came. h d came ends) came

pub next_missing : (f : Form ℕ Simple) (last : Option ℕ) (count : ℕ) (tag : List ℕ) → f ≡ Missing → (d : List ℕ) → Came f d → EndsWith d last count → Unknown ≡ next f d tag
next_missing f last count tag e d came ends = rw e refl

pub get_some : (xs ys : List TypeInfo) (i : ℕ) (t : TypeInfo) → ys ≡ xs → i < length ys → t ≡ get_or ys i t → slice_get xs i ≡ Some t
get_some xs ys i t e h g = ap (λ (v : List TypeInfo). slice_get v i) (sym e) ∙ (slice_get-get_or ys i t h ∙ ap Some (sym g))

pub get_none : (xs ys : List TypeInfo) (i : ℕ) → ys ≡ xs → length ys ≤ i → slice_get xs i ≡ None
get_none xs ys i e h = ap (λ (v : List TypeInfo). slice_get v i) (sym e) ∙ beyond ys i h
  where
    beyond : (ys : List TypeInfo) (i : ℕ) → length ys ≤ i → slice_get ys i ≡ None
    beyond [] i h = refl
    beyond (y ∷ ys) zero h = absurd (omega (arith, h))
    beyond (y ∷ ys) (suc i) h = beyond ys i (omega (arith, h))

pub layout_sequence_end : (l : Layout) (slots view : List SlotInfo) (last : Option ℕ) (count : ℕ) (x : EndOfSlots) → l ≡ layout.Sequence slots → view ≡ slots → IsSoundForm (layout_form l) → x ≡ quick_sequence_end (slots_view view) last count
    → (d : List ℕ) → Came (layout_form l) d → EndsWith d last count → x ≡ end_after (layout_form l) d
layout_sequence_end l slots view last count x e v sound h d came ends =
    subst (λ (y : Layout). IsSoundForm (layout_form y) → Came (layout_form y) d → x ≡ end_after (layout_form y) d) (sym e)
    (λ sound came. (h ∙ ap (λ y. quick_sequence_end (slots_view y) last count) v) ∙ sequence_ends (slots_view slots) d last count sound came ends) sound came

pub layout_choice_end : (l : Layout) (slots view : List SlotInfo) (last : Option ℕ) (count : ℕ) (x : EndOfSlots) → l ≡ layout.Choice slots → view ≡ slots → IsSoundForm (layout_form l) → x ≡ quick_choice_end (slots_view view) last count
    → (d : List ℕ) → Came (layout_form l) d → EndsWith d last count → x ≡ end_after (layout_form l) d
layout_choice_end l slots view last count x e v sound h d came ends =
    subst (λ (y : Layout). IsSoundForm (layout_form y) → Came (layout_form y) d → x ≡ end_after (layout_form y) d) (sym e)
    (λ sound came. (h ∙ ap (λ y. quick_choice_end (slots_view y) last count) v) ∙ choice_ends (slots_view slots) d last count sound came ends) sound came

pub end_found : (f g : Form ℕ Simple) (last : Option ℕ) (count : ℕ) (x : EndOfSlots) → f ≡ g → ((d : List ℕ) → Came g d → EndsWith d last count → x ≡ end_after g d) → (d : List ℕ) → Came f d → EndsWith d last count → x ≡ end_after f d
end_found f g last count x e h d came ends = subst (λ (y : Form ℕ Simple). Came y d → x ≡ end_after y d) (sym e) (λ came. h d came ends) came

pub end_missing : (f : Form ℕ Simple) (last : Option ℕ) (count : ℕ) → f ≡ Missing → (d : List ℕ) → Came f d → EndsWith d last count → NoAlternative ≡ end_after f d
end_missing f last count e d came ends = rw e refl

get_beyond : (slots : List SlotInfo) (i : ℕ) → length slots ≤ i → slice_get slots i ≡ None
get_beyond [] i h = refl
get_beyond (y ∷ ys) zero h = absurd (omega (arith, h))
get_beyond (y ∷ ys) (suc i) h = get_beyond ys i (omega (arith, h))

-- nothing is due from what is no slot
pub due_beyond : (slots : List SlotInfo) (last count : ℕ) → length slots ≤ last → end_of_slots (due (slots_view slots) last count (length slots)) ≡ Fine
due_beyond slots last count h =
    let at : slice_get (slots_view slots) last ≡ None = slice_get-map slot_info slots last ∙ ap (option_map slot_info) (get_beyond slots last h) in
    let more : length slots ≤ suc last = omega (arith, h) in
    let none : slots_view (drop (suc last) slots) ≡ [] = ap slots_view (drop_of_length-le slots more) in
    rw (at, never count, ← drop_view (suc last) slots, none) refl
  where
    never : (n : ℕ) → nat_lt n 0 ≡ false
    never n = grind (arith, nat_tests)

-- the end, by the last slot
pub end_none : (slots : List SlotInfo) (last : Option ℕ) (count : ℕ) (due_is : Option ℕ) (x : EndOfSlots) → last ≡ None → due_is ≡ first_lacking 0 (length slots) (slots_view (drop 0 slots)) [] → x ≡ end_of_slots due_is → x ≡ quick_sequence_end (slots_view slots) last count
end_none slots last count due_is x e f g = rw (e, length_view slots) (g ∙ ap end_of_slots f)

pub end_some : (slots : List SlotInfo) (last : Option ℕ) (l count : ℕ) (due_is : Option ℕ) (x : EndOfSlots) → last ≡ Some l → due_is ≡ due (slots_view slots) l count (length slots) → x ≡ end_of_slots due_is → x ≡ quick_sequence_end (slots_view slots) last count
end_some slots last l count due_is x e f g = rw (e, length_view slots) (g ∙ ap end_of_slots f)

pub end_beyond : (slots : List SlotInfo) (last : Option ℕ) (l count : ℕ) → last ≡ Some l → length slots ≤ l → Fine ≡ quick_sequence_end (slots_view slots) last count
end_beyond slots last l count e h = rw (e, length_view slots) (sym (due_beyond slots l count h))
