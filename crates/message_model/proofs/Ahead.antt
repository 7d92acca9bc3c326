-- What stands next, from the last slot to the first, and what it says.
use Rattle.std.proofs.Common.{◌≡◌, ℕ, zero, suc, ◌+◌, ◌-◌, ◌≤◌, ◌<◌, Bool, true, false, cond, List, [], ◌∷◌, length, length-drop, drop, get_or, Some, None, refl, sym, ap, subst, ◌∙◌, arith, ◌⊎◌, inl, inr, ◌≢◌}
use Rattle.std.specs.Prelude.{slice_get, slice_set, nat_lt, ◌==◌, if◌then◌else◌}
use Rattle.std.proofs.lemmas.Bool.Decides.{nat_tests}
use Rattle.std.proofs.lemmas.Option.{same_Some, slice_get_within, slice_get_read, slice_get-get_or, slice_get-map, slice_get_cases}
use Rattle.std.specs.Option.{option_map}
use Rattle.reference_check.specs.Forms.{Slot}
use Rattle.reference_check.specs.Steps.{first_lacking}
use Rattle.message_model.specs.Options.{is_option, AreOptions, IsFirmAt}
use Rattle.message_model.specs.inner.Ahead.{may_lack, IsNextOther, IsAhead, AreNotedFrom}
use Rattle.message_model.specs.SlotViews.{slot_info, slots_view}
use Rattle.message_model.specs.declared.slot_list.SlotInfo.{SlotInfo}
use Rattle.message_model.proofs.Views.{drop_view}
use Rattle.message_model.specs.declared.slot_list.Ahead.{Ahead}

module _ {P : Type 0} (sort : Slot P → Bool) (fs : List (Slot P)) where
  -- behind the last slot there is none
  pub next_none : IsNextOther sort fs (length fs) (length fs)
  next_none = record {
    above = omega arith;
    within = omega arith;
    other = λ s g. (let h = slice_get_within fs (length fs) s g in absurd (omega (arith, h)));
    before = λ i s a b g. absurd (omega (arith, a, b));
  }

pub drop_get : {A : Type 0} (n i : ℕ) (xs : List A) → slice_get (drop n xs) i ≡ slice_get xs (n + i)
drop_get zero i xs = ap (slice_get xs) (zero_add i)
  where
    zero_add : (i : ℕ) → i ≡ 0 + i
    zero_add i = omega arith
drop_get (suc n) i [] = refl
drop_get (suc n) i (x ∷ xs) = drop_get n i xs ∙ ap (slice_get (x ∷ xs)) (suc_add n i)
  where
    suc_add : (n i : ℕ) → suc (n + i) ≡ suc n + i
    suc_add n i = omega arith

-- ---- what has to come

module _ {P : Type 0} where
  -- the list from slot k on, of which that of number n has to come and none before it
  lacking_list : (k to n : ℕ) (fs : List (Slot P)) → to ≤ k + length fs → n ≤ length fs → ((s : Slot P) → slice_get fs n ≡ Some s → may_lack s ≡ false)
      → ((i : ℕ) (s : Slot P) → i < n → slice_get fs i ≡ Some s → may_lack s ≡ true) → first_lacking k to fs [] ≡ cond (nat_lt (k + n) to) (Some (k + n)) None
  lacking_list k to n [] low within other before = (let e : nat_lt (k + n) to ≡ false = not_below k n to low in rw e refl)
    where
      not_below : (k n to : ℕ) → to ≤ k + 0 → nat_lt (k + n) to ≡ false
      not_below k n to low = grind (arith, nat_tests)
  lacking_list k to zero (s ∷ fs) low within other before = (let e : nat_lt 0 s.min ≡ true = some s.min (other s refl) in let z : k + 0 ≡ k = omega arith in rw (e, z) (same (nat_lt k to)))
    where
      some : (m : ℕ) → (m == 0) ≡ false → nat_lt 0 m ≡ true
      some m e = grind (arith, nat_tests)

      same : (b : Bool) → (if b then Some k else None) ≡ cond b (Some k) None
      same true = refl
      same false = refl
  lacking_list k to (suc n) (s ∷ fs) low within other before =
      go (nat_lt k to) refl (lacking_list (suc k) to n fs (omega (arith, low)) (omega (arith, within)) other (λ i t b g. before (suc i) t (omega (arith, b)) g))
    where
      none : (m : ℕ) → (m == 0) ≡ true → nat_lt 0 m ≡ false
      none m e = grind (arith, nat_tests)

      not_below : (k n to : ℕ) → nat_lt k to ≡ false → nat_lt (k + suc n) to ≡ false
      not_below k n to e = grind (arith, nat_tests)

      go : (b : Bool) → nat_lt k to ≡ b → first_lacking (suc k) to fs [] ≡ cond (nat_lt (suc k + n) to) (Some (suc k + n)) None → (if b then (if nat_lt 0 s.min then Some k else first_lacking (suc k) to fs []) else None) ≡ cond (nat_lt (k + suc n) to) (Some (k + suc n)) None
      go true e later =
          let z : nat_lt 0 s.min ≡ false = none s.min (before zero s (omega arith) refl) in
          let m : suc k + n ≡ k + suc n = omega arith in
          rw (z, ← m) later
      go false e later = (let z : nat_lt (k + suc n) to ≡ false = not_below k n to e in rw z refl)

  -- from one slot on
  lacking_from : (from to n : ℕ) (fs : List (Slot P)) → IsNextOther may_lack fs from (from + n) → to ≤ length fs → first_lacking from to (drop from fs) [] ≡ cond (nat_lt (from + n) to) (Some (from + n)) None
  lacking_from from to n fs next high =
      lacking_list from to n (drop from fs) (let e = length-drop from fs in omega (arith, e, high)) (let e = length-drop from fs in let w = next.within in omega (arith, e, w))
      (λ s g. next.other s (sym (drop_get from n fs) ∙ g)) (λ i s b g. next.before (from + i) s (omega arith) (omega (arith, b)) (sym (drop_get from i fs) ∙ g))

  lacking_at : (from to at : ℕ) (fs : List (Slot P)) → IsNextOther may_lack fs from at → to ≤ length fs → first_lacking from to (drop from fs) [] ≡ cond (nat_lt at to) (Some at) None
  lacking_at from to at fs next high =
      let e : from + (at - from) ≡ at = (let h = next.above in omega (arith, h)) in
      subst (λ k. first_lacking from to (drop from fs) [] ≡ cond (nat_lt k to) (Some k) None) e
      (lacking_from from to (at - from) fs (subst (λ k. IsNextOther may_lack fs from k) (sym e) next) high)

pub length_view : (slots : List SlotInfo) → length (slots_view slots) ≡ length slots
length_view [] = refl
length_view (s ∷ slots) = ap suc (length_view slots)

lacking_in : (slots : List SlotInfo) (from to at : ℕ) → IsNextOther may_lack (slots_view slots) from at → to ≤ length slots → first_lacking from to (slots_view (drop from slots)) [] ≡ cond (nat_lt at to) (Some at) None
lacking_in slots from to at next high = rw (drop_view from slots) (lacking_at from to at (slots_view slots) next (let e = length_view slots in omega (arith, e, high)))

-- the slot that is told is the first that lacks
pub due_below : (slots : List SlotInfo) (from to at : ℕ) → IsNextOther may_lack (slots_view slots) from at → to ≤ length slots → at < to → Some at ≡ first_lacking from to (slots_view (drop from slots)) []
due_below slots from to at next high lt = sym (lacking_in slots from to at next high ∙ ap (λ b. cond b (Some at) None) (below at to lt))
  where
    below : (at to : ℕ) → at < to → nat_lt at to ≡ true
    below at to lt = grind (arith, nat_tests)

pub due_past : (slots : List SlotInfo) (from to at : ℕ) → IsNextOther may_lack (slots_view slots) from at → to ≤ length slots → to ≤ at → None ≡ first_lacking from to (slots_view (drop from slots)) []
due_past slots from to at next high le = sym (lacking_in slots from to at next high ∙ ap (λ b. cond b (Some at) None) (past at to le))
  where
    past : (at to : ℕ) → to ≤ at → nat_lt at to ≡ false
    past at to le = grind (arith, nat_tests)

-- ---- what is no option

pub firm_found : (slots : List SlotInfo) (from at : ℕ) → IsNextOther is_option (slots_view slots) from at → at < length slots → IsFirmAt (slots_view slots) from at
firm_found slots from at next lt = go (slice_get_cases (slots_view slots) at).1
  where
    go : ((s : Slot ℕ) × (at < length (slots_view slots)) × (slice_get (slots_view slots) at ≡ Some s) × (get_or (slots_view slots) at s ≡ s)) ⊎ ((length (slots_view slots) ≤ at) × (slice_get (slots_view slots) at ≡ None)) → IsFirmAt (slots_view slots) from at
    go (inl (s, low, is, same)) = record { slot = s; above = next.above; is = is; firm = next.other s is; first = next.before }
    go (inr (past, none)) = absurd (let e = length_view slots in omega (arith, e, lt, past))

pub firm_none : (slots : List SlotInfo) (from at : ℕ) → IsNextOther is_option (slots_view slots) from at → length slots ≤ at → AreOptions (slots_view slots) from (length (slots_view slots))
firm_none slots from at next le i s a b g = next.before i s a (let e = length_view slots in omega (arith, e, le, b)) g

-- ---- what is told of a slot

pub told_at : (inside now view : List SlotInfo) (i : ℕ) (s : SlotInfo) → inside ≡ now → AreNotedFrom 0 inside → view ≡ inside → i < length view → s ≡ get_or view i s → IsAhead (slots_view now) i s.ahead
told_at inside now view i s e noted v low read =
    let here : slice_get view i ≡ Some s = slice_get_read view (length view) i s refl low read in
    subst (λ xs. IsAhead (slots_view xs) i s.ahead) e (noted i s (omega arith) (ap (λ xs. slice_get xs i) (sym v) ∙ here))

-- ---- one slot more is told

view_set : (slots : List SlotInfo) (k : ℕ) (d t : SlotInfo) → slot_info t ≡ slot_info (get_or slots k d) → slots_view (slice_set slots k t) ≡ slots_view slots
view_set [] k d t e = refl
view_set (s ∷ slots) zero d t e = ap (λ x. x ∷ slots_view slots) e
view_set (s ∷ slots) (suc k) d t e = ap (λ xs. slot_info s ∷ xs) (view_set slots k d t e)

length_set : (slots : List SlotInfo) (k : ℕ) (t : SlotInfo) → length (slice_set slots k t) ≡ length slots
length_set [] k t = refl
length_set (s ∷ slots) zero t = refl
length_set (s ∷ slots) (suc k) t = ap suc (length_set slots k t)

-- what stands in the list then
in_set : (slots : List SlotInfo) (k i : ℕ) (t s : SlotInfo) → slice_get (slice_set slots k t) i ≡ Some s → ((i ≡ k) × (s ≡ t)) ⊎ ((i ≢ k) × (slice_get slots i ≡ Some s))
in_set [] k i t s e = cc
in_set (x ∷ slots) zero zero t s e = inl (refl, sym (same_Some t s e))
in_set (x ∷ slots) zero (suc i) t s e = inr ((λ h. omega (arith, h)), e)
in_set (x ∷ slots) (suc k) zero t s e = inr ((λ h. omega (arith, h)), e)
in_set (x ∷ slots) (suc k) (suc i) t s e = go (in_set slots k i t s e)
  where
    go : ((i ≡ k) × (s ≡ t)) ⊎ ((i ≢ k) × (slice_get slots i ≡ Some s)) → ((suc i ≡ suc k) × (s ≡ t)) ⊎ ((suc i ≢ suc k) × (slice_get slots i ≡ Some s))
    go (inl (a, b)) = inl (ap suc a, b)
    go (inr (a, b)) = inr ((λ h. a (omega (arith, h))), b)

pub told_more : (slots : List SlotInfo) (start : List (Slot ℕ)) (at : ℕ) (x d t : SlotInfo) (behind a : Ahead) → slots_view slots ≡ start → at ≤ length slots → 0 < at
    → IsAhead (slots_view slots) at behind → AreNotedFrom at slots
    → ((fs : List (Slot ℕ)) → slice_get fs (at - 1) ≡ Some (slot_info (get_or slots (at - 1) x)) → IsAhead fs (at - 1 + 1) behind → IsAhead fs (at - 1) a)
    → slot_info t ≡ slot_info (get_or slots (at - 1) d) → t.ahead ≡ a
    → (slots_view (slice_set slots (at - 1) t) ≡ start) × (at - 1 ≤ length (slice_set slots (at - 1) t)) × IsAhead (slots_view (slice_set slots (at - 1) t)) (at - 1) a
    × AreNotedFrom (at - 1) (slice_set slots (at - 1) t)
told_more slots start at x d t behind a begun low some is noted step info told =
    let one : at - 1 + 1 ≡ at = omega (arith, some) in
    let here : slice_get slots (at - 1) ≡ Some (get_or slots (at - 1) x) = slice_get-get_or slots (at - 1) x (omega (arith, low, some)) in
    let seen : slice_get (slots_view slots) (at - 1) ≡ Some (slot_info (get_or slots (at - 1) x)) = slice_get-map slot_info slots (at - 1) ∙ ap (option_map slot_info) here in
    let same : slots_view (slice_set slots (at - 1) t) ≡ slots_view slots = view_set slots (at - 1) d t info in
    let ahead : IsAhead (slots_view slots) (at - 1) a = step (slots_view slots) seen (subst (λ n. IsAhead (slots_view slots) n behind) (sym one) is) in
    (same ∙ begun, (let e = length_set slots (at - 1) t in omega (arith, e, low)), subst (λ fs. IsAhead fs (at - 1) a) (sym same) ahead, each same ahead)
  where
    each : slots_view (slice_set slots (at - 1) t) ≡ slots_view slots → IsAhead (slots_view slots) (at - 1) a → AreNotedFrom (at - 1) (slice_set slots (at - 1) t)
    each same ahead i s from g = subst (λ fs. IsAhead fs i s.ahead) (sym same) (go (in_set slots (at - 1) i t s g))
      where
        go : ((i ≡ at - 1) × (s ≡ t)) ⊎ ((i ≢ at - 1) × (slice_get slots i ≡ Some s)) → IsAhead (slots_view slots) i s.ahead
        go (inl (e, f)) = subst (λ n. IsAhead (slots_view slots) n s.ahead) (sym e) (subst (λ b. IsAhead (slots_view slots) (at - 1) b) (sym (ap (λ (y : SlotInfo). y.ahead) f ∙ told)) ahead)
        go (inr (e, f)) = noted i s (above i at from e) f
          where
            above : (i at : ℕ) → at - 1 ≤ i → i ≢ at - 1 → at ≤ i
            above i at h e = omega (arith, h, e)
