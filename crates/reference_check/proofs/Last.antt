-- What may come next, by the last slot and its count.
use Rattle.std.proofs.Common.{◌≡◌, ℕ, zero, suc, ◌+◌, ◌≤◌, ◌<◌, Bool, true, false, cond, ◌||◌, List, [], ◌∷◌, ◌++◌, length, drop, Some, None, refl, ap, ◌∙◌, arith, eqb, ltb, ◌⊎◌, inl, inr, zero-add, add-zero, ◌≢◌}
use Rattle.std.specs.Prelude.{slice_get, ◌==◌, nat_lt, if◌then◌else◌}
use Rattle.std.specs.List.{list_any}
use Rattle.std.proofs.lemmas.Bool.Decides.{nat_tests, eqb_tells}
use Rattle.std.proofs.lemmas.Bool.{lt-ltb, le-ltb}
use Rattle.reference_check.specs.Forms.{Slot}
use Rattle.reference_check.specs.Words.{times, IsOrderedFrom, IsSequence}
use Rattle.reference_check.specs.Steps.{Slotted, OutOfOrder, TooMany, has_room, first_lacking, after_order, sequence_next}
use Rattle.reference_check.proofs.Words.{times-append, one_other, times-below, ordered-after, lacks_none}

-- none above the bound
pub none_above : (m j : ℕ) (d : List ℕ) → list_any (λ i. nat_lt m i) d ≡ false → m < j → (times j d ≡ 0) × (list_any (λ i. nat_lt j i) d ≡ false)
none_above m j [] h l = (refl, refl)
none_above m j (i ∷ d) h l = go (parts m i _ h) (λ r. none_above m j d r l)
  where
    parts : (m i : ℕ) (b : Bool) → (nat_lt m i || b) ≡ false → (i ≤ m) × (b ≡ false)
    parts m i b e = grind (arith, nat_tests)

    together : (j i : ℕ) (b : Bool) → i ≤ j → b ≡ false → (nat_lt j i || b) ≡ false
    together j i b h e = grind (arith, nat_tests)

    go : (i ≤ m) × (list_any (λ i. nat_lt m i) d ≡ false) → (list_any (λ i. nat_lt m i) d ≡ false → (times j d ≡ 0) × (list_any (λ i. nat_lt j i) d ≡ false)) → (times j (i ∷ d) ≡ 0) × ((nat_lt j i || list_any (λ i. nat_lt j i) d) ≡ false)
    go p r = (one_other i j (times j d) (λ e. omega (arith, p.0)) (r p.1).0, together j i _ (omega (arith, p.0)) (r p.1).1)

any-append : (p : ℕ → Bool) (d e : List ℕ) → list_any p (d ++ e) ≡ (list_any p d || list_any p e)
any-append p [] e = refl
any-append p (i ∷ d) e = rw (any-append p d e) (regroup (p i) (list_any p d) (list_any p e))
  where
    regroup : (a b c : Bool) → (a || (b || c)) ≡ ((a || b) || c)
    regroup true b c = refl
    regroup false b c = refl

-- the search goes past slots that lack nothing
lacking_past : {P : Type 0} (m k bound : ℕ) (fs : List (Slot P)) (d : List ℕ) → k + m ≤ bound → ((i j : ℕ) (s : Slot P) → j ≡ k + i → i < m → slice_get fs i ≡ Some s → s.min ≤ times j d) → first_lacking k bound fs d ≡ first_lacking (k + m) bound (drop m fs) d
lacking_past zero k bound fs d h enough = rw add-zero refl
lacking_past (suc m) k bound [] d h enough = refl
lacking_past (suc m) k bound (s ∷ fs) d h enough =
    let inside : ltb k bound ≡ true = lt-ltb k bound (omega arith) in
    let full : ltb (times k d) s.min ≡ false = le-ltb (times k d) s.min (enough 0 k s (omega arith) (omega arith) refl) in
    let at : k + suc m ≡ suc k + m = omega arith in
    rw (inside, full, at) (lacking_past m (suc k) bound fs d (omega arith) (λ i j f e l g. enough (suc i) j f (omega arith) (omega arith) g))

-- where nothing has come from a slot on, nothing counts
pub lacking_none : {P : Type 0} (k bound : ℕ) (fs : List (Slot P)) (d : List ℕ) → ((j : ℕ) → k ≤ j → times j d ≡ 0) → first_lacking k bound fs d ≡ first_lacking k bound fs []
lacking_none k bound [] d h = refl
lacking_none k bound (s ∷ fs) d h = rw (h k (omega arith), lacking_none (suc k) bound fs d (λ j l. h j (omega arith))) refl

-- d ends with the slot l, and some word goes on from it
module _ {P : Type 0} (fs : List (Slot P)) (before e : List ℕ) (l : ℕ) (word : IsSequence fs (before ++ l ∷ e)) where
  abbrev so_far : List ℕ
  so_far = before ++ l ∷ []

  pub none_later : list_any (λ i. nat_lt l i) before ≡ false
  none_later = (ordered-after 0 (length fs) l before e word.ordered).0

  rest_ordered : IsOrderedFrom l (length fs) e
  rest_ordered = (ordered-after 0 (length fs) l before e word.ordered).1

  not_self : (k : ℕ) → l ≤ k → list_any (λ i. nat_lt k i) so_far ≡ false
  not_self k h = rw (any-append (λ i. nat_lt k i) before (l ∷ [])) (go (eqb_tells l k))
    where
      ends : (k l : ℕ) (b : Bool) → l ≤ k → b ≡ false → (b || (nat_lt k l || false)) ≡ false
      ends k l b h e = grind (arith, nat_tests)

      go : ((eqb l k ≡ true) × (l ≡ k)) ⊎ ((eqb l k ≡ false) × (l ≢ k)) → (list_any (λ i. nat_lt k i) before || (nat_lt k l || false)) ≡ false
      go (inl t) = ends k l _ h (rw (← t.1) none_later)
      go (inr t) = ends k l _ h (none_above l k before none_later (omega (arith, t.1))).1

  filled : (j : ℕ) (s : Slot P) → j < l → slice_get fs j ≡ Some s → s.min ≤ times j so_far
  filled j s h g =
      let w : s.min ≤ times j (before ++ l ∷ e) = (word.within j s g).0 in
      let a : times j (before ++ l ∷ e) ≡ times j before = times-append j before (l ∷ e) ∙ (ap (λ n. times j before + n) (one_other l j (times j e) (λ q. omega arith) (times-below j l (length fs) e h rest_ordered)) ∙ add-zero _) in
      omega (arith, times-append j before (l ∷ []))

  -- an earlier slot
  pub goes_back : (k : ℕ) (s : Slot P) → k < l → sequence_next fs so_far k s ≡ OutOfOrder
  goes_back k s h = (let t : list_any (λ i. nat_lt k i) so_far ≡ true = any-append (λ i. nat_lt k i) before (l ∷ []) ∙ found k l _ h in rw t refl)
    where
      found : (k l : ℕ) (b : Bool) → k < l → (b || (nat_lt k l || false)) ≡ true
      found k l true h = refl
      found k l false h = grind (arith, nat_tests)

  -- the same slot again
  pub comes_again : (s : Slot P) → sequence_next fs so_far l s ≡ (if has_room (times l so_far) s.max then Slotted l else TooMany)
  comes_again s =
      let none : first_lacking 0 l fs so_far ≡ None = lacks_none 0 l fs so_far (λ i j f at g h. filled j f h (let same : i ≡ j = omega arith in rw same at g)) in
      rw (not_self l (omega arith), none) refl

  -- a later slot
  pub comes_later : (k : ℕ) (s t : Slot P) → l < k → has_room 0 s.max ≡ true → slice_get fs l ≡ Some t → sequence_next fs so_far k s ≡ after_order k (first_lacking l k (drop l fs) so_far)
  comes_later k s t h room g =
      let zero_times : times k so_far ≡ 0 = times-append k before (l ∷ []) ∙ none_of (times k before) (none_above l k before none_later h).0 in
      let past : first_lacking 0 k fs so_far ≡ first_lacking (0 + l) k (drop l fs) so_far = lacking_past l 0 k fs so_far (omega arith) (λ i j f at m q. filled j f (omega arith) (let same : i ≡ j = omega arith in rw same at q)) in
      rw (not_self k (omega arith), zero_times, room, past, zero-add) refl
    where
      none_of : (n : ℕ) → n ≡ 0 → n + (cond (l == k) 1 0 + 0) ≡ 0
      none_of n e = grind (arith, nat_tests)

  -- the end
  pub ends_later : first_lacking 0 (length fs) fs so_far ≡ first_lacking l (length fs) (drop l fs) so_far
  ends_later =
      let past : first_lacking 0 (length fs) fs so_far ≡ first_lacking (0 + l) (length fs) (drop l fs) so_far = lacking_past l 0 (length fs) fs so_far (let e : l < length fs = slot_below in omega arith) (λ i j f at m q. filled j f (omega arith) (let same : i ≡ j = omega arith in rw same at q)) in
      past ∙ ap (λ n. first_lacking n (length fs) (drop l fs) so_far) (zero-add l)
    where
      below : (low top m : ℕ) (d e : List ℕ) → IsOrderedFrom low top (d ++ m ∷ e) → m < top
      below low top m [] e o = o.1
      below low top m (k ∷ d) e o = below k top m d e o.2

      slot_below : l < length fs
      slot_below = below 0 (length fs) l before e word.ordered
