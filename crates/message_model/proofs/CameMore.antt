-- One more slot that comes.
use Rattle.std.proofs.Common.{◌≡◌, ℕ, ◌+◌, ◌≤◌, cond, Bool, true, false, ◌||◌, List, [], ◌∷◌, ◌++◌, Option, Some, None, refl, sym, ap, ◌∙◌, arith, append_assoc, append-nil, subst, eqb, ◌⊎◌, inl, inr, ◌≢◌}
use Rattle.std.specs.Prelude.{slice_get, ◌==◌, nat_lt, if◌then◌else◌}
use Rattle.std.specs.List.{list_any}
use Rattle.std.proofs.lemmas.Bool.{or_parts}
use Rattle.std.proofs.lemmas.Bool.Decides.{nat_tests, eqb_tells}
use Rattle.facets.specs.declared.simple.Simple.{Simple}
use Rattle.reference_check.specs.Forms.{Slot, Form, form_slots}
use Rattle.reference_check.specs.Forms as form
use Rattle.reference_check.specs.Words.{times, IsSequence}
use Rattle.reference_check.specs.Steps.{NextSlot, Slotted, OutOfOrder, TooMany, Second, has_room, first_lacking, after_order, find_slot, sequence_next, choice_next, CameAfter, Came, EndsWith, next, next_of, next_at, next_found}
use Rattle.reference_check.proofs.Words.{times-append}
use Rattle.reference_check.proofs.Last.{none_later}
use Rattle.message_model.specs.Sound.{IsSoundForm, SlotComes, count_with}
use Rattle.message_model.proofs.Quick.{Completed, came_completes, starts}
use Rattle.message_model.proofs.QuickSteps.{below_none, choice_last}

came_behind : {P : Type 0} (f : Form P Simple) (before d : List ℕ) (k : ℕ) (s : Slot P) → CameAfter f before d → slice_get (form_slots f) k ≡ Some s → next_of f (before ++ d) k s ≡ Slotted k → CameAfter f before (d ++ k ∷ [])
came_behind f before [] k s came found fine = ((s, found, rw append-nil at fine), tt)
came_behind f before (j ∷ d) k s came found fine =
    (came.0, came_behind f (before ++ j ∷ []) d k s came.1 found (subst (λ (x : List ℕ). next_of f x k s ≡ Slotted k) (sym (append_assoc before (j ∷ []) d)) fine))

-- a slot that may come has come
pub came_more : {P : Type 0} (f : Form P Simple) (d : List ℕ) (k : ℕ) (s : Slot P) → Came f d → slice_get (form_slots f) k ≡ Some s → next_of f d k s ≡ Slotted k → Came f (d ++ k ∷ [])
came_more f d k s came found fine = came_behind f [] d k s came found fine

-- the last slot again
pub ends_again : (d : List ℕ) (k count : ℕ) → EndsWith d (Some k) count → EndsWith (d ++ k ∷ []) (Some k) (count + 1)
ends_again d k count (before, e, counted) = (d, refl, times-append k d (k ∷ []) ∙ one k (times k d) count counted)
  where
    one : (k n count : ℕ) → n ≡ count → n + (cond (k == k) 1 0 + 0) ≡ count + 1
    one k n count e = grind (arith, nat_tests)

-- a slot that had not come
pub ends_new : (d : List ℕ) (k : ℕ) → times k d ≡ 0 → EndsWith (d ++ k ∷ []) (Some k) 1
ends_new d k none = (d, refl, times-append k d (k ∷ []) ∙ one k (times k d) none)
  where
    one : (k n : ℕ) → n ≡ 0 → n + (cond (k == k) 1 0 + 0) ≡ 1
    one k n e = grind (arith, nat_tests)

if_slotted : (b : Bool) (x y : NextSlot) (k : ℕ) → (y ≡ Slotted k → ⊥) → (if b then x else y) ≡ Slotted k → b ≡ true
if_slotted true x y k q e = refl
if_slotted false x y k q e = absurd (q e)

unless_slotted : (b : Bool) (x y : NextSlot) (k : ℕ) → (x ≡ Slotted k → ⊥) → (if b then x else y) ≡ Slotted k → b ≡ false
unless_slotted true x y k q e = absurd (q e)
unless_slotted false x y k q e = refl

any_last : (k l : ℕ) (before : List ℕ) → list_any (λ i. nat_lt k i) (before ++ l ∷ []) ≡ false → l ≤ k
any_last k l [] h = one k l h
  where
    one : (k l : ℕ) → (nat_lt k l || false) ≡ false → l ≤ k
    one k l h = grind (arith, nat_tests)
any_last k l (i ∷ before) h = any_last k l before (or_parts (nat_lt k i) _ h).1

-- the next slot of a sequence, where it is another than the last, had not come
new_in_sequence : {P : Type 0} (fs : List (Slot P)) (d before : List ℕ) (l k : ℕ) (s : Slot P) → IsSoundForm {P = P} (form.Sequence fs) → Came {L = Simple} (form.Sequence fs) d → d ≡ before ++ l ∷ [] → sequence_next fs d k s ≡ Slotted k → (l ≡ k → ⊥) → times k d ≡ 0
new_in_sequence {P} fs d before l k s sound came e next other = go (came_completes Simple fs [] d sound.bounds (starts fs sound.bounds) came)
  where
    joined : (e' : List ℕ) → IsSequence fs (d ++ e') → IsSequence fs (before ++ l ∷ e')
    joined e' w = subst (λ (x : List ℕ). IsSequence fs x) (ap (λ x. x ++ e') e ∙ append_assoc before (l ∷ []) e') w

    none : list_any (λ i. nat_lt k i) d ≡ false
    none = unless_slotted _ OutOfOrder _ k (λ h. cc) next

    last_below : l ≤ k
    last_below = any_last k l before (subst (λ (x : List ℕ). list_any (λ i. nat_lt k i) x ≡ false) e none)

    go : Completed fs d → times k d ≡ 0
    go (e', w) = below_none l k d before e (none_later fs before e' l (joined e' w)) k (omega (arith, last_below, other))

-- the same of a choice
new_in_choice : (d before : List ℕ) (l k : ℕ) (rest : List ℕ) (max : Option ℕ) → d ≡ l ∷ rest → (if l == k then (if has_room (times k d) max then Slotted k else TooMany) else Second) ≡ Slotted k → (l ≡ k → ⊥) → ⊥
new_in_choice d before l k rest max e next other = other (same l k (if_slotted (l == k) _ Second k (λ h. cc) next))
  where
    same : (l k : ℕ) → (l == k) ≡ true → l ≡ k
    same l k h = grind (arith, nat_tests)

-- a slot that comes behind another had not come
pub new_slot : {P : Type 0} (f : Form P Simple) (d : List ℕ) (l count k : ℕ) (s : Slot P) → IsSoundForm f → Came f d → EndsWith d (Some l) count → next_of f d k s ≡ Slotted k → (l ≡ k → ⊥) → times k d ≡ 0
new_slot (form.Sequence fs) d l count k s sound came (before, e, counted) next other = new_in_sequence fs d before l k s sound came e next other
new_slot {P} (form.Choice fs) d l count k s sound came (before, e, counted) next other = go (choice_last fs d before l sound came e)
  where
    in_choice : (rest : List ℕ) → choice_next (l ∷ rest) k s ≡ Slotted k → ⊥
    in_choice rest h = new_in_choice (l ∷ rest) before l k rest s.max refl h other

    go : (rest : List ℕ) × (d ≡ l ∷ rest) → times k d ≡ 0
    go (rest, q) = absurd (in_choice rest (subst (λ (x : List ℕ). choice_next x k s ≡ Slotted k) q next))
new_slot f d l count k s sound came ends next other = cc

next_slot : {P : Type 0} (f : Form P Simple) (d tag : List ℕ) (k : ℕ) → next f d tag ≡ Slotted k → (s : Slot P) × (slice_get (form_slots f) k ≡ Some s) × (next_of f d k s ≡ Slotted k)
next_slot {P} f d tag k h = found (find_slot 0 (form_slots f) tag) h
  where
    of_sequence : (fs : List (Slot P)) (j : ℕ) (s : Slot P) → sequence_next fs d j s ≡ Slotted k → j ≡ k
    of_sequence fs j s e = go (list_any (λ i. nat_lt j i) d) (has_room (times j d) s.max) (first_lacking 0 j fs d) e
      where
        go : (a b : Bool) (o : Option ℕ) → (if a then OutOfOrder else (if b then after_order j o else TooMany)) ≡ Slotted k → j ≡ k
        go true b o e = cc
        go false false o e = cc
        go false true None e = cc
        go false true (Some i) e = cc

    of_choice : (d : List ℕ) (j : ℕ) (s : Slot P) → choice_next d j s ≡ Slotted k → j ≡ k
    of_choice [] j s e = cc
    of_choice (i ∷ d) j s e = go (i == j) (has_room (times j (i ∷ d)) s.max) e
      where
        go : (a b : Bool) → (if a then (if b then Slotted j else TooMany) else Second) ≡ Slotted k → j ≡ k
        go true true e = cc
        go true false e = cc
        go false b e = cc

    same : (f : Form P Simple) (j : ℕ) (s : Slot P) → next_of f d j s ≡ Slotted k → j ≡ k
    same (form.Sequence fs) j s e = of_sequence fs j s e
    same (form.Choice fs) j s e = of_choice d j s e
    same f j s e = cc

    at : (j : ℕ) (o : Option (Slot P)) → slice_get (form_slots f) j ≡ o → next_at f d j o ≡ Slotted k → (s : Slot P) × (slice_get (form_slots f) k ≡ Some s) × (next_of f d k s ≡ Slotted k)
    at j None q e = cc
    at j (Some s) q e = (let i : j ≡ k = same f j s e in (s, subst (λ (x : ℕ). slice_get (form_slots f) x ≡ Some s) i q, subst (λ (x : ℕ). next_of f d x s ≡ Slotted k) i e))

    found : (o : Option ℕ) → next_found f (form_slots f) d o ≡ Slotted k → (s : Slot P) × (slice_get (form_slots f) k ≡ Some s) × (next_of f d k s ≡ Slotted k)
    found None e = cc
    found (Some j) e = at j (slice_get (form_slots f) j) refl e

-- the slot that a tag has come at is the last, and its count is one more, or 1
pub slot_comes : SlotComes
slot_comes f d last count tag k sound came ends h = go (next_slot f d tag k h)
  where
    ended : (last : Option ℕ) → EndsWith d last count → ((s : Slot ℕ) × (slice_get (form_slots f) k ≡ Some s) × (next_of f d k s ≡ Slotted k)) → EndsWith (d ++ k ∷ []) (Some k) (count_with last count k)
    ended None (e, c) r = (d, refl, ap (λ x. times k (x ++ k ∷ [])) e ∙ one k)
      where
        one : (k : ℕ) → cond (k == k) 1 0 + 0 ≡ 1
        one k = grind (arith, nat_tests)
    ended (Some l) ends (s, found, next) = by (eqb_tells l k)
      where
        by : ((eqb l k ≡ true) × (l ≡ k)) ⊎ ((eqb l k ≡ false) × (l ≢ k)) → EndsWith (d ++ k ∷ []) (Some k) (if l == k then count + 1 else 1)
        by (inl (b, e)) = rw b (ends_again d k count (subst (λ (x : ℕ). EndsWith d (Some x) count) e ends))
        by (inr (b, e)) = rw b (ends_new d k (new_slot f d l count k s sound came ends next e))

    go : ((s : Slot ℕ) × (slice_get (form_slots f) k ≡ Some s) × (next_of f d k s ≡ Slotted k)) → Came f (d ++ k ∷ []) × EndsWith (d ++ k ∷ []) (Some k) (count_with last count k)
    go r = (came_more f d k r.0 came r.1 r.2, ended last ends r)
