-- Words of slots: what may come next is what some word goes on with.
use Rattle.std.proofs.Common.{◌≡◌, ℕ, zero, suc, ◌+◌, ◌-◌, ◌≤◌, ◌<◌, Bool, true, false, cond, ◌||◌, List, [], ◌∷◌, ◌++◌, length, replicate, Option, Some, None, refl, sym, ap, ◌∙◌, arith, eqb, append_assoc, ◌⊎◌, inl, inr, ◌≢◌, le_trans}
use Rattle.std.specs.Prelude.{slice_get, ◌==◌, nat_lt, if◌then◌else◌}
use Rattle.std.specs.List.{list_any}
use Rattle.std.proofs.lemmas.Bool.Decides.{nat_tests, eqb_tells}
use native.Mathlib.Decide.{dec_lt}
use Rattle.std.proofs.lemmas.Option.{slice_get_within}
use Rattle.reference_check.specs.Forms.{Slot}
use Rattle.reference_check.specs.Words.{times, UpTo, MayComeTimes, IsOrderedFrom, IsSequence}
use Rattle.reference_check.specs.Steps.{Slotted, OutOfOrder, TooMany, has_room, first_lacking, after_order, sequence_next}

pub times-append : (k : ℕ) (d e : List ℕ) → times k (d ++ e) ≡ times k d + times k e
times-append k [] e = omega arith
times-append k (j ∷ d) e = omega (arith, times-append k d e)

pub times-replicate : (k n : ℕ) → times k (replicate n k) ≡ n
times-replicate k zero = refl
times-replicate k (suc n) = same k (times-replicate k n)
  where
    same : (k : ℕ) → times k (replicate n k) ≡ n → cond (k == k) 1 0 + times k (replicate n k) ≡ suc n
    same k h = grind (arith, nat_tests)

pub one_other : (j k m : ℕ) → (j ≡ k → ⊥) → m ≡ 0 → cond (j == k) 1 0 + m ≡ 0
one_other j k m h e = grind (arith, nat_tests)

pub times-replicate_other : (j k n : ℕ) → (j ≡ k → ⊥) → times k (replicate n j) ≡ 0
times-replicate_other j k zero h = refl
times-replicate_other j k (suc n) h = one_other j k _ h (times-replicate_other j k n h)

-- what is still missing of the slots, of which the list begins with slot k
pub fill : {P : Type 0} → ℕ → List (Slot P) → List ℕ → List ℕ
fill k [] d = []
fill k (s ∷ fs) d = replicate (s.min - times k d) k ++ fill (suc k) fs d

pub ordered-weaken : (low low' top : ℕ) (d : List ℕ) → low' ≤ low → IsOrderedFrom low top d → IsOrderedFrom low' top d
ordered-weaken low low' top [] h o = tt
ordered-weaken low low' top (k ∷ d) h o = (omega arith, o.1, o.2)

pub ordered-replicate : (n k low top : ℕ) (d : List ℕ) → low ≤ k → k < top → IsOrderedFrom k top d → IsOrderedFrom low top (replicate n k ++ d)
ordered-replicate zero k low top d h t o = ordered-weaken k low top d h o
ordered-replicate (suc n) k low top d h t o = (h, t, ordered-replicate n k k top d (omega arith) t o)

pub ordered-fill : {P : Type 0} (k top : ℕ) (fs : List (Slot P)) (d : List ℕ) → k + length fs ≤ top → IsOrderedFrom k top (fill k fs d)
unfolding fill
ordered-fill k top [] d h = tt
ordered-fill k top (s ∷ fs) d h =
    ordered-replicate (s.min - times k d) k k top (fill (suc k) fs d) (omega arith) (omega arith)
    (ordered-weaken (suc k) k top _ (omega arith) (ordered-fill (suc k) top fs d (omega arith)))

-- what is ordered from a bound on has no slot below it
pub times-below : (k low top : ℕ) (d : List ℕ) → k < low → IsOrderedFrom low top d → times k d ≡ 0
times-below k low top [] h o = refl
times-below k low top (j ∷ d) h o = one_other j k _ (λ e. omega arith) (times-below k j top d (omega arith) o.2)

pub times-first : (k n top : ℕ) (rest : List ℕ) → IsOrderedFrom (suc k) top rest → times k (replicate n k ++ rest) ≡ n
times-first k n top rest o =
    omega (arith, times-append k (replicate n k) rest, times-replicate k n, times-below k (suc k) top rest (omega arith) o)

pub times-later : (j k n : ℕ) (rest : List ℕ) → k < j → times j (replicate n k ++ rest) ≡ times j rest
times-later j k n rest h =
    omega (arith, times-append j (replicate n k) rest, times-replicate_other k j n (λ e. omega arith))

-- the missing ones are as many as are missing
pub times-fill : {P : Type 0} (k i j : ℕ) (fs : List (Slot P)) (d : List ℕ) (s : Slot P) → j ≡ k + i → slice_get fs i ≡ Some s → times j (fill k fs d) ≡ s.min - times j d
unfolding fill
times-fill k i j [] d s h e = cc
times-fill k zero j (f ∷ fs) d s h e =
    let same : f ≡ s = cc in
    let at : j ≡ k = omega arith in
    rw (at, ← same) (times-first k (f.min - times k d) (suc k + length fs) (fill (suc k) fs d) (ordered-fill (suc k) _ fs d (omega arith)))
times-fill k (suc i) j (f ∷ fs) d s h e =
    times-later j k (f.min - times k d) (fill (suc k) fs d) (omega arith) ∙ times-fill (suc k) i j fs d s (omega arith) e

chosen : (a b : Bool) (o : Option ℕ) (k : ℕ) → cond a OutOfOrder (cond b (after_order k o) TooMany) ≡ Slotted k → (a ≡ false) × (b ≡ true) × (o ≡ None)
chosen true b o k e = cc
chosen false true None k e = (refl, refl, refl)
chosen false true (Some j) k e = cc
chosen false false o k e = cc

cases_lacking : (a b : Bool) (k : ℕ) (o : Option ℕ) → (if a then (if b then Some k else o) else None) ≡ None → a ≡ true → (b ≡ false) × (o ≡ None)
cases_lacking false b k o e h = cc
cases_lacking true true k o e h = cc
cases_lacking true false k o e h = (refl, e)

lt_true : (k n : ℕ) → k < n → nat_lt k n ≡ true
lt_true k n h = grind (arith, nat_tests)

lt_false : (n m : ℕ) → nat_lt n m ≡ false → m ≤ n
lt_false n m h = grind (arith, nat_tests)

lacking_step : (k bound n m : ℕ) (o : Option ℕ) → (if nat_lt k bound then (if nat_lt n m then Some k else o) else None) ≡ None → k < bound → (m ≤ n) × (o ≡ None)
lacking_step k bound n m o e h =
    let both : (nat_lt n m ≡ false) × (o ≡ None) = cases_lacking (nat_lt k bound) (nat_lt n m) k o e (lt_true k bound h) in
    (lt_false n m both.0, both.1)

pub none_lacking : {P : Type 0} (k i j bound : ℕ) (fs : List (Slot P)) (d : List ℕ) (s : Slot P) → first_lacking k bound fs d ≡ None → j ≡ k + i → slice_get fs i ≡ Some s → j < bound → s.min ≤ times j d
none_lacking k i j bound [] d s e h g l = cc
none_lacking k zero j bound (f ∷ fs) d s e h g l =
    let same : f ≡ s = cc in
    let at : j ≡ k = omega arith in
    rw (at, ← same) (lacking_step k bound (times k d) f.min (first_lacking (suc k) bound fs d) e (omega arith)).0
none_lacking k (suc i) j bound (f ∷ fs) d s e h g l =
    none_lacking (suc k) i j bound fs d s (lacking_step k bound (times k d) f.min (first_lacking (suc k) bound fs d) e (omega arith)).1 (omega arith) g l

abbrev pub IsProper : {P : Type 0} → List (Slot P) → Type 0
IsProper {P} fs = (k : ℕ) (s : Slot P) → slice_get fs k ≡ Some s → UpTo s.min s.max

abbrev pub IsBelowMost : {P : Type 0} → List (Slot P) → List ℕ → Type 0
IsBelowMost {P} fs d = (k : ℕ) (s : Slot P) → slice_get fs k ≡ Some s → UpTo (times k d) s.max

none_later : (k j : ℕ) (b : Bool) → (nat_lt k j || b) ≡ false → (j ≤ k) × (b ≡ false)
none_later k j b e = grind (arith, nat_tests)

ordered-append : (low m top : ℕ) (d e : List ℕ) → low ≤ m → list_any (λ j. nat_lt m j) d ≡ false → IsOrderedFrom low top d → IsOrderedFrom m top e → IsOrderedFrom low top (d ++ e)
ordered-append low m top [] e h n o p = ordered-weaken m low top e h p
ordered-append low m top (k ∷ d) e h n o p =
    let both : (k ≤ m) × (list_any (λ j. nat_lt m j) d ≡ false) = none_later m k _ n in
    (o.0, o.1, ordered-append k m top d e both.0 both.1 o.2 p)

fill_step : {P : Type 0} (k low top : ℕ) (s : Slot P) (fs : List (Slot P)) (d : List ℕ) → k + suc (length fs) ≤ top → (k < low → s.min ≤ times k d) → IsOrderedFrom low top (fill (suc k) fs d) → Dec (k < low) → IsOrderedFrom low top (replicate (s.min - times k d) k ++ fill (suc k) fs d)
fill_step k low top s fs d h enough rest (yes l) =
    let none : s.min - times k d ≡ 0 = (let e : s.min ≤ times k d = enough l in omega arith) in
    rw none rest
fill_step k low top s fs d h enough rest (no l) =
    ordered-replicate (s.min - times k d) k low top _ (omega arith) (omega arith)
    (ordered-weaken (suc k) k top _ (omega arith) (ordered-fill (suc k) top fs d (omega arith)))

-- where the slots below a bound lack nothing, all that is filled in lies above
ordered-fill_from : {P : Type 0} (k low top : ℕ) (fs : List (Slot P)) (d : List ℕ) → k + length fs ≤ top → ((i j : ℕ) (s : Slot P) → j ≡ k + i → slice_get fs i ≡ Some s → j < low → s.min ≤ times j d) → IsOrderedFrom low top (fill k fs d)
unfolding fill
ordered-fill_from k low top [] d h enough = tt
ordered-fill_from k low top (s ∷ fs) d h enough =
    fill_step k low top s fs d h (enough 0 k s (omega arith) refl)
    (ordered-fill_from (suc k) low top fs d (omega arith) (λ i j f e g l. enough (suc i) j f (omega arith) g l)) (dec_lt k low)

room_more : (n : ℕ) (max : Option ℕ) → has_room n max ≡ true → UpTo (n + 1) max
room_more n None h = tt
room_more n (Some top) h = lt_of_true n top h
  where
    lt_of_true : (n m : ℕ) → nat_lt n m ≡ true → n + 1 ≤ m
    lt_of_true n m h = grind (arith, nat_tests)

pub up_to_less : (n m : ℕ) (max : Option ℕ) → n ≤ m → UpTo m max → UpTo n max
up_to_less n m None h u = tt
up_to_less n m (Some top) h u = omega arith

pub up_to_filled : (n m : ℕ) (max : Option ℕ) → UpTo n max → UpTo m max → UpTo (n + (m - n)) max
up_to_filled n m None h u = tt
up_to_filled n m (Some top) h u = omega arith

count_one_more : (i k : ℕ) (d : List ℕ) → ((i ≡ k) × (times i (d ++ k ∷ []) ≡ times k d + 1)) ⊎ (times i (d ++ k ∷ []) ≡ times i d)
count_one_more i k d = go (times-append i d (k ∷ [])) (eqb_tells k i)
  where
    go : times i (d ++ k ∷ []) ≡ times i d + (cond (k == i) 1 0 + 0) → ((eqb k i ≡ true) × (k ≡ i)) ⊎ ((eqb k i ≡ false) × (k ≢ i)) → ((i ≡ k) × (times i (d ++ k ∷ []) ≡ times k d + 1)) ⊎ (times i (d ++ k ∷ []) ≡ times i d)
    go e (inl t) = inl (sym t.1, (let h : i ≡ k = sym t.1 in grind (arith, nat_tests)))
    go e (inr t) = inr (grind (arith, nat_tests))

-- what may come next is what some word goes on with
pub completes : {P : Type 0} (fs : List (Slot P)) (d : List ℕ) (k : ℕ) (s : Slot P) → IsProper fs → IsOrderedFrom 0 (length fs) d → IsBelowMost fs d → slice_get fs k ≡ Some s → sequence_next fs d k s ≡ Slotted k → IsSequence fs ((d ++ k ∷ []) ++ fill 0 fs (d ++ k ∷ []))
completes {P} fs d k s proper ordered most found fine = record { ordered = in_order; within = enough }
  where
    parts : (list_any (λ j. nat_lt k j) d ≡ false) × (has_room (times k d) s.max ≡ true) × (first_lacking 0 k fs d ≡ None)
    parts = chosen _ _ _ k fine

    d' : List ℕ
    d' = d ++ k ∷ []

    more : (i : ℕ) → times i d ≤ times i d'
    more i = omega (arith, times-append i d (k ∷ []))

    one_more : (i : ℕ) (f : Slot P) → slice_get fs i ≡ Some f → i ≡ k → times i (d ++ k ∷ []) ≡ times k d + 1 → UpTo (times i (d ++ k ∷ [])) f.max
    one_more i f e at counted =
        let at_k : slice_get fs k ≡ Some f = rw at at e in
        let same : f ≡ s = cc in
        rw (counted, same) (room_more (times k d) s.max parts.1)

    most' : (i : ℕ) (f : Slot P) → slice_get fs i ≡ Some f → UpTo (times i d') f.max
    most' i f e = elim (count_one_more i k d) [ inl same ↦ one_more i f e same.0 same.1 | inr other ↦ rw other (most i f e) ]

    in_order : IsOrderedFrom 0 (length fs) (d' ++ fill 0 fs d')
    in_order = rw append_assoc (ordered-append 0 k (length fs) d _ (omega arith) parts.0 ordered (omega arith, slice_get_within fs k s found, ordered-fill_from 0 k (length fs) fs d' (omega arith) (λ i j f e g l. le_trans (none_lacking 0 i j k fs d f parts.2 e g l) (more j))))

    enough : (i : ℕ) (f : Slot P) → slice_get fs i ≡ Some f → MayComeTimes (times i (d' ++ fill 0 fs d')) f
    enough i f e =
        let counted : times i (d' ++ fill 0 fs d') ≡ times i d' + (f.min - times i d') = times-append i d' (fill 0 fs d') ∙ ap (λ n. times i d' + n) (times-fill 0 i i fs d' f (omega arith) e) in
        (omega arith, rw counted (up_to_filled (times i d') f.min f.max (most' i f e) (proper i f e)))

or_false : (m k : ℕ) (b : Bool) → k ≤ m → b ≡ false → (nat_lt m k || b) ≡ false
or_false m k b h e = grind (arith, nat_tests)

pub ordered-after : (low top m : ℕ) (d e : List ℕ) → IsOrderedFrom low top (d ++ m ∷ e) → (list_any (λ j. nat_lt m j) d ≡ false) × IsOrderedFrom m top e × (low ≤ m)
ordered-after low top m [] e o = (refl, o.2, o.0)
ordered-after low top m (k ∷ d) e o = go (ordered-after k top m d e o.2)
  where
    go : (list_any (λ j. nat_lt m j) d ≡ false) × IsOrderedFrom m top e × (k ≤ m) → ((nat_lt m k || list_any (λ j. nat_lt m j) d) ≡ false) × IsOrderedFrom m top e × (low ≤ m)
    go r = (or_false m k _ r.2 r.0, r.1, omega arith)

pub has_room_of : (n m : ℕ) (max : Option ℕ) → n < m → UpTo m max → has_room n max ≡ true
has_room_of n m None h u = refl
has_room_of n m (Some top) h u = lt_true n top (omega arith)

pub lacks_none : {P : Type 0} (k bound : ℕ) (fs : List (Slot P)) (d : List ℕ) → ((i j : ℕ) (s : Slot P) → j ≡ k + i → slice_get fs i ≡ Some s → j < bound → s.min ≤ times j d) → first_lacking k bound fs d ≡ None
lacks_none k bound [] d enough = refl
lacks_none k bound (s ∷ fs) d enough = step (nat_lt k bound) refl (lacks_none (suc k) bound fs d (λ i j f e g l. enough (suc i) j f (omega arith) g l))
  where
    step : (b : Bool) → nat_lt k bound ≡ b → first_lacking (suc k) bound fs d ≡ None → (if b then (if nat_lt (times k d) s.min then Some k else first_lacking (suc k) bound fs d) else None) ≡ None
    step false e r = refl
    step true e r =
        let l : k < bound = lt_of_true k bound e in
        let h : s.min ≤ times k d = enough 0 k s (omega arith) refl l in
        let no : nat_lt (times k d) s.min ≡ false = ge_false (times k d) s.min h in
        rw (no, r)
      where
        lt_of_true : (n m : ℕ) → nat_lt n m ≡ true → n < m
        lt_of_true n m h = grind (arith, nat_tests)

        ge_false : (n m : ℕ) → m ≤ n → nat_lt n m ≡ false
        ge_false n m h = grind (arith, nat_tests)

times_head : (k : ℕ) (e : List ℕ) → times k e < times k (k ∷ e)
times_head k e = grind (arith, nat_tests)

pub goes_on : {P : Type 0} (fs : List (Slot P)) (d e : List ℕ) (k : ℕ) (s : Slot P) → slice_get fs k ≡ Some s → IsSequence fs (d ++ k ∷ e) → sequence_next fs d k s ≡ Slotted k
goes_on {P} fs d e k s found word =
    let o : (list_any (λ j. nat_lt k j) d ≡ false) × IsOrderedFrom k (length fs) e × (0 ≤ k) = ordered-after 0 (length fs) k d e word.ordered in
    let room : has_room (times k d) s.max ≡ true = has_room_of (times k d) (times k (d ++ k ∷ e)) s.max (omega (arith, times-append k d (k ∷ e), times_head k e)) (word.within k s found).1 in
    let none : first_lacking 0 k fs d ≡ None = lacks_none 0 k fs d (λ i j f g h l. let same : i ≡ j = omega arith in let h2 : slice_get fs j ≡ Some f = rw same at h in before j f h2 l o.1) in
    rw (o.0, room, none)
  where
    before : (j : ℕ) (f : Slot P) → slice_get fs j ≡ Some f → j < k → IsOrderedFrom k (length fs) e → f.min ≤ times j d
    before j f h l o = omega (arith, (word.within j f h).0, times-append j d (k ∷ e), one_other k j (times j e) (λ q. omega arith) (times-below j k (length fs) e l o))
