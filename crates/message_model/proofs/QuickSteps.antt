-- The last slot and its count tell what may come next in a sequence.
use Rattle.std.proofs.Common.{◌≡◌, ℕ, zero, suc, ◌+◌, ◌<◌, ◌≤◌, eqb, Bool, true, false, cond, List, [], ◌∷◌, ◌++◌, length, drop, replicate, Option, Some, None, refl, sym, ap, ◌∙◌, arith, append_assoc, ◌⊎◌, inl, inr, subst, ◌≢◌}
use Rattle.std.specs.Prelude.{slice_get, ◌==◌, if◌then◌else◌, nat_lt}
use Rattle.std.specs.List.{list_any}
use Rattle.std.proofs.lemmas.Bool.Decides.{nat_tests, eqb_tells}
use Rattle.std.proofs.lemmas.Option.{slice_get_within}
use Rattle.facets.specs.declared.simple.Simple.{Simple}
use Rattle.reference_check.specs.Forms.{Slot}
use Rattle.reference_check.specs.Forms as form
use Rattle.reference_check.specs.Words.{times, UpTo, IsSequence}
use Rattle.reference_check.specs.Steps.{NextSlot, Slotted, TooMany, has_room, first_lacking, after_order, sequence_next, choice_next, choice_end, end_of_slots, Second, CameAfter, Came, EndsWith, find_slot, next, next_at, next_found, end_after}
use Rattle.reference_check.proofs.Words.{times-append, IsProper}
use Rattle.reference_check.proofs.Last.{ends_later, goes_back, comes_again, comes_later, none_later, none_above, lacking_none}
use Rattle.message_model.specs.inner.Quick.{quick_at, due, quick_slot, quick_found, quick_sequence_next, quick_sequence_end, quick_alternative, quick_choice_next, quick_choice_end}
use Rattle.message_model.specs.Sound.{IsSoundForm}
use Rattle.message_model.proofs.Quick.{Completed, came_completes, starts, same_parts, all_same}

-- the slots from one on
drop_at : {P : Type 0} (fs : List (Slot P)) (l : ℕ) (t : Slot P) → slice_get fs l ≡ Some t → drop l fs ≡ t ∷ drop (suc l) fs
drop_at [] l t e = cc
drop_at (f ∷ fs) zero t e = cc
drop_at (f ∷ fs) (suc l) t e = drop_at fs l t e

pub below_none : (l k : ℕ) (d before : List ℕ) → d ≡ before ++ l ∷ [] → list_any (λ i. nat_lt l i) before ≡ false → (j : ℕ) → suc l ≤ j → times j d ≡ 0
below_none l k d before e none j h = ap (times j) e ∙ (times-append j before (l ∷ []) ∙ sum (times j before) (none_above l j before none h).0)
  where
    sum : (n : ℕ) → n ≡ 0 → n + (cond (l == j) 1 0 + 0) ≡ 0
    sum n e = grind (arith, nat_tests)

-- a later slot
later_due : {P : Type 0} (fs : List (Slot P)) (d before : List ℕ) (l k : ℕ) (t : Slot P) → slice_get fs l ≡ Some t → l < k → d ≡ before ++ l ∷ [] → list_any (λ i. nat_lt l i) before ≡ false → first_lacking l k (drop l fs) d ≡ due fs l (times l d) k
later_due fs d before l k t found h e none =
    let inside : nat_lt l k ≡ true = less l k h in
    let rest : first_lacking (suc l) k (drop (suc l) fs) d ≡ first_lacking (suc l) k (drop (suc l) fs) [] = lacking_none (suc l) k (drop (suc l) fs) d (λ j g. below_none l k d before e none j g) in
    rw (drop_at fs l t found, found, inside, rest) refl
  where
    less : (l k : ℕ) → l < k → nat_lt l k ≡ true
    less l k h = grind (arith, nat_tests)

came_slot : {P : Type 0} (fs : List (Slot P)) (before b : List ℕ) (l : ℕ) → CameAfter {L = Simple} (form.Sequence fs) before (b ++ l ∷ []) → (t : Slot P) × (slice_get fs l ≡ Some t)
came_slot fs before [] l came = (came.0.0, came.0.1)
came_slot fs before (j ∷ b) l came = came_slot fs (before ++ j ∷ []) b l came.1

-- in a sequence the last slot and its count say what the list of all slots says
pub quick_sequence : {P : Type 0} (fs : List (Slot P)) (d : List ℕ) (last : Option ℕ) (count k : ℕ) (s : Slot P) → IsProper fs → has_room 0 s.max ≡ true → Came {L = Simple} (form.Sequence fs) d → EndsWith d last count → slice_get fs k ≡ Some s → quick_at fs last count k s ≡ sequence_next fs d k s
quick_sequence fs d None count k s proper room came (e, c) found = rw (e, room) refl
quick_sequence {P} fs d (Some l) count k s proper room came (before, e, counted) found = go (came_completes Simple fs [] d proper (starts fs proper) came)
  where
    slot : (t : Slot P) × (slice_get fs l ≡ Some t)
    slot = came_slot fs [] before l (subst (λ (x : List ℕ). Came {L = Simple} (form.Sequence fs) x) e came)

    less : (k l : ℕ) → nat_lt k l ≡ true → k < l
    less k l h = grind (arith, nat_tests)

    more : (k l : ℕ) → nat_lt k l ≡ false → k ≢ l → l < k
    more k l h n = (let e : l ≤ k = at_least k l h in omega (arith, e, n))
      where
        at_least : (k l : ℕ) → nat_lt k l ≡ false → l ≤ k
        at_least k l h = grind (arith, nat_tests)

    joined : (e' : List ℕ) → IsSequence fs (d ++ e') → IsSequence fs (before ++ l ∷ e')
    joined e' w = subst (λ (x : List ℕ). IsSequence fs x) (ap (λ x. x ++ e') e ∙ append_assoc before (l ∷ []) e') w

    go : Completed fs d → quick_at fs (Some l) count k s ≡ sequence_next fs d k s
    go (e', w) = by (nat_lt k l) refl (eqb_tells k l)
      where
        word : IsSequence fs (before ++ l ∷ e')
        word = joined e' w

        -- the three ways
        by : (b : Bool) → nat_lt k l ≡ b → ((eqb k l ≡ true) × (k ≡ l)) ⊎ ((eqb k l ≡ false) × (k ≢ l)) → quick_at fs (Some l) count k s ≡ sequence_next fs d k s
        by true h x = rw (h, e) (sym (goes_back fs before e' l word k s (less k l h)))
        by false h (inl (q, same)) = rw (h, q, ← counted, e) (sym (subst (λ (i : ℕ). sequence_next fs (before ++ l ∷ []) i s ≡ (if has_room (times l (before ++ l ∷ [])) s.max then Slotted l else TooMany)) (sym same) (comes_again fs before e' l word s)))
        by false h (inr (q, other)) =
            let later : l < k = more k l h other in
            rw (h, q, ← counted) (sym (ap (λ x. sequence_next fs x k s) e ∙ (comes_later fs before e' l word k s slot.0 later room slot.1
            ∙ ap (after_order k) (later_due fs (before ++ l ∷ []) before l k slot.0 slot.1 later refl (none_later fs before e' l word)
            ∙ ap (λ x. due fs l (times l x) k) (sym e)))))

-- the steps of a sequence
pub sequence_steps : {P : Type 0} (fs : List (Slot P)) (d : List ℕ) (last : Option ℕ) (count : ℕ) (tag : List ℕ) → IsSoundForm {P = P} (form.Sequence fs) → Came {L = Simple} (form.Sequence fs) d → EndsWith d last count → quick_sequence_next fs last count tag ≡ next {L = Simple} (form.Sequence fs) d tag
sequence_steps {P} fs d last count tag sound came ends = go (find_slot 0 fs tag)
  where
    at : (k : ℕ) (o : Option (Slot P)) → slice_get fs k ≡ o → quick_slot (quick_at fs last count) k o ≡ next_at {L = Simple} (form.Sequence fs) d k o
    at k None e = refl
    at k (Some s) e = quick_sequence fs d last count k s sound.bounds (sound.room k s e) came ends e

    go : (o : Option ℕ) → quick_found (quick_at fs last count) fs o ≡ next_found {L = Simple} (form.Sequence fs) fs d o
    go None = refl
    go (Some k) = at k (slice_get fs k) refl

-- in a choice all slots that came are the last
pub choice_last : {P : Type 0} (fs : List (Slot P)) (d before : List ℕ) (l : ℕ) → IsSoundForm {P = P} (form.Choice fs) → Came {L = Simple} (form.Choice fs) d → d ≡ before ++ l ∷ [] → (rest : List ℕ) × (d ≡ l ∷ rest)
choice_last fs [] before l sound came e = absurd (none before e)
  where
    none : (b : List ℕ) → [] ≡ b ++ l ∷ [] → ⊥
    none [] e = cc
    none (x ∷ b) e = cc
choice_last {P} fs (j ∷ d) before l sound came e = (d, ap (λ x. x ∷ d) first)
  where
    one : (max : Option ℕ) → has_room 0 max ≡ true → UpTo 1 max
    one None h = tt
    one (Some top) h = less top h
      where
        less : (top : ℕ) → nat_lt 0 top ≡ true → 1 ≤ top
        less top h = grind (arith, nat_tests)

    same : (m : ℕ) × (replicate 1 j ++ d ≡ replicate (suc m) j) × UpTo (suc m) came.0.0.max
    same = all_same Simple fs j came.0.0 zero d came.0.1 (one came.0.0.max (sound.room j came.0.0 came.0.1)) came.1

    first : j ≡ l
    first = sym (same_parts before [] (suc same.0) j l (sym e ∙ same.1)).0

pub choice_steps : {P : Type 0} (fs : List (Slot P)) (d : List ℕ) (last : Option ℕ) (count : ℕ) (tag : List ℕ) → IsSoundForm {P = P} (form.Choice fs) → Came {L = Simple} (form.Choice fs) d → EndsWith d last count → quick_choice_next fs last count tag ≡ next {L = Simple} (form.Choice fs) d tag
choice_steps {P} fs d last count tag sound came ends = go (find_slot 0 fs tag)
  where
    turned : (a b : Bool) (k l : ℕ) (x : NextSlot) → ((eqb k l ≡ true) × (k ≡ l)) ⊎ ((eqb k l ≡ false) × (k ≢ l)) → ((eqb l k ≡ true) × (l ≡ k)) ⊎ ((eqb l k ≡ false) × (l ≢ k)) → (if k == l then x else Second) ≡ (if l == k then x else Second)
    turned a b k l x (inl (p, e)) (inl (q, f)) = rw (p, q) refl
    turned a b k l x (inl (p, e)) (inr (q, f)) = absurd (f (sym e))
    turned a b k l x (inr (p, e)) (inl (q, f)) = absurd (e (sym f))
    turned a b k l x (inr (p, e)) (inr (q, f)) = rw (p, q) refl

    counted_at : (k l n : ℕ) (rest : List ℕ) (s : Slot P) → times l (l ∷ rest) ≡ n → ((eqb k l ≡ true) × (k ≡ l)) ⊎ ((eqb k l ≡ false) × (k ≢ l)) → (if k == l then (if has_room n s.max then Slotted k else TooMany) else Second) ≡ (if k == l then (if has_room (times k (l ∷ rest)) s.max then Slotted k else TooMany) else Second)
    counted_at k l n rest s h (inl (p, e)) = (let same : times k (l ∷ rest) ≡ n = ap (λ i. times i (l ∷ rest)) e ∙ h in rw p (ap (λ c. if has_room c s.max then Slotted k else TooMany) (sym same)))
    counted_at k l n rest s h (inr (p, e)) = rw p refl

    alternative : (last : Option ℕ) → EndsWith d last count → (k : ℕ) (s : Slot P) → quick_alternative last count k s ≡ choice_next d k s
    alternative None (e, c) k s = rw e refl
    alternative (Some l) (before, e, counted) k s = of_last (choice_last fs d before l sound came e)
      where
        of_last : ((rest : List ℕ) × (d ≡ l ∷ rest)) → quick_alternative (Some l) count k s ≡ choice_next d k s
        of_last (rest, q) = rw q (counted_at k l count rest s (ap (times l) (sym q) ∙ counted) (eqb_tells k l) ∙ turned true true k l _ (eqb_tells k l) (eqb_tells l k))

    at : (k : ℕ) (o : Option (Slot P)) → quick_slot (quick_alternative last count) k o ≡ next_at {L = Simple} (form.Choice fs) d k o
    at k None = refl
    at k (Some s) = alternative last ends k s

    go : (o : Option ℕ) → quick_found (quick_alternative last count) fs o ≡ next_found {L = Simple} (form.Choice fs) fs d o
    go None = refl
    go (Some k) = at k (slice_get fs k)

pub choice_ends : {P : Type 0} (fs : List (Slot P)) (d : List ℕ) (last : Option ℕ) (count : ℕ) → IsSoundForm {P = P} (form.Choice fs) → Came {L = Simple} (form.Choice fs) d → EndsWith d last count → quick_choice_end fs last count ≡ end_after {L = Simple} (form.Choice fs) d
choice_ends fs d None count sound came (e, c) = rw e refl
choice_ends {P} fs d (Some l) count sound came (before, e, counted) = of_last (choice_last fs d before l sound came e)
  where
    of_last : ((rest : List ℕ) × (d ≡ l ∷ rest)) → quick_choice_end fs (Some l) count ≡ end_after {L = Simple} (form.Choice fs) d
    of_last (rest, q) = rw q (ap (λ n. choice_end n l (slice_get fs l)) (sym counted ∙ ap (times l) q))

pub sequence_ends : {P : Type 0} (fs : List (Slot P)) (d : List ℕ) (last : Option ℕ) (count : ℕ) → IsSoundForm {P = P} (form.Sequence fs) → Came {L = Simple} (form.Sequence fs) d → EndsWith d last count → quick_sequence_end fs last count ≡ end_after {L = Simple} (form.Sequence fs) d
sequence_ends fs d None count sound came (e, c) = rw e refl
sequence_ends {P} fs d (Some l) count sound came (before, e, counted) = go (came_completes Simple fs [] d sound.bounds (starts fs sound.bounds) came)
  where
    slot : (t : Slot P) × (slice_get fs l ≡ Some t)
    slot = came_slot fs [] before l (subst (λ (x : List ℕ). Came {L = Simple} (form.Sequence fs) x) e came)

    joined : (e' : List ℕ) → IsSequence fs (d ++ e') → IsSequence fs (before ++ l ∷ e')
    joined e' w = subst (λ (x : List ℕ). IsSequence fs x) (ap (λ x. x ++ e') e ∙ append_assoc before (l ∷ []) e') w

    go : Completed fs d → quick_sequence_end fs (Some l) count ≡ end_after {L = Simple} (form.Sequence fs) d
    go (e', w) = ap end_of_slots (ap (λ n. due fs l n (length fs)) (sym counted ∙ ap (times l) e)
        ∙ (sym (later_due fs (before ++ l ∷ []) before l (length fs) slot.0 slot.1 (slice_get_within fs l slot.0 slot.1) refl (none_later fs before e' l (joined e' w)))
        ∙ (sym (ends_later fs before e' l (joined e' w)) ∙ ap (first_lacking 0 (length fs) fs) (sym e))))
