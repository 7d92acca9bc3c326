-- The words by order and counts are the words by concatenation.
use Rattle.std.proofs.Common.{◌≡◌, ℕ, zero, suc, ◌+◌, true, false, List, [], ◌∷◌, ◌++◌, length, replicate, Some, refl, ap, arith, eqb, ◌⊎◌, inl, inr, ◌≢◌}
use Rattle.std.specs.Prelude.{slice_get}
use Rattle.std.proofs.lemmas.Bool.Decides.{nat_tests, eqb_tells}
use Rattle.reference_check.specs.Forms.{Slot}
use Rattle.reference_check.specs.Words.{times, MayComeTimes, IsOrderedFrom}
use Rattle.reference_check.proofs.Words.{times-first, times-later, times-below, ordered-replicate, ordered-weaken}

-- the first slot, whose number is k, as often as it may come, and then a word of the others
abbrev pub IsConcatenationFrom : {P : Type 0} → ℕ → List (Slot P) → List ℕ → Type 0
IsConcatenationFrom k [] d = d ≡ []
IsConcatenationFrom k (s ∷ fs) d = (n : ℕ) × (rest : List ℕ) × MayComeTimes n s × (d ≡ replicate n k ++ rest) × IsConcatenationFrom (suc k) fs rest

abbrev pub AreWithin : {P : Type 0} → ℕ → List (Slot P) → List ℕ → Type 0
AreWithin {P} k fs d = (i j : ℕ) (s : Slot P) → j ≡ k + i → slice_get fs i ≡ Some s → MayComeTimes (times j d) s

pub from_concatenation : {P : Type 0} (k top : ℕ) (fs : List (Slot P)) (d : List ℕ) → k + length fs ≡ top → IsConcatenationFrom k fs d → IsOrderedFrom k top d × AreWithin k fs d
from_concatenation k top [] d h c = (rw c tt, λ i j s e g. cc)
from_concatenation {P} k top (f ∷ fs) d h (n, rest, within, e, c) = go (from_concatenation (suc k) top fs rest (omega arith) c)
  where
    go : IsOrderedFrom (suc k) top rest × AreWithin (suc k) fs rest → IsOrderedFrom k top d × AreWithin k (f ∷ fs) d
    go r = (rw e (ordered-replicate n k k top rest (omega arith) (omega arith) (ordered-weaken (suc k) k top rest (omega arith) r.0)), each)
      where
        each : (i j : ℕ) (s : Slot P) → j ≡ k + i → slice_get (f ∷ fs) i ≡ Some s → MayComeTimes (times j d) s
        each zero j s at g =
            let same : f ≡ s = cc in
            let at_k : j ≡ k = omega arith in
            rw (e, at_k, times-first k n top rest r.0, ← same) within
        each (suc i) j s at g = rw (e, times-later j k n rest (omega arith)) (r.1 i j s (omega arith) g)

-- what is ordered begins with all that come of its least slot
split_first : (k top : ℕ) (d : List ℕ) → IsOrderedFrom k top d → (rest : List ℕ) × (d ≡ replicate (times k d) k ++ rest) × IsOrderedFrom (suc k) top rest
split_first k top [] o = ([], refl, tt)
split_first k top (j ∷ d) o = go (split_first k top d (ordered-weaken j k top d o.0 o.2)) (eqb_tells j k)
  where
    go : (rest : List ℕ) × (d ≡ replicate (times k d) k ++ rest) × IsOrderedFrom (suc k) top rest → ((eqb j k ≡ true) × (j ≡ k)) ⊎ ((eqb j k ≡ false) × (j ≢ k)) → (rest : List ℕ) × (j ∷ d ≡ replicate (times k (j ∷ d)) k ++ rest) × IsOrderedFrom (suc k) top rest
    go r (inl t) =
        let counted : times k (j ∷ d) ≡ suc (times k d) = (let e : eqb j k ≡ true = t.0 in grind (arith, nat_tests)) in
        (r.0, rw (counted, t.1) (ap (λ x. k ∷ x) r.1), r.2)
    go r (inr t) =
        let none : times k (j ∷ d) ≡ 0 = times-below k (suc k) top (j ∷ d) (omega arith) (omega arith, o.1, o.2) in
        (j ∷ d, rw none refl, (omega arith, o.1, o.2))

pub to_concatenation : {P : Type 0} (k top : ℕ) (fs : List (Slot P)) (d : List ℕ) → k + length fs ≡ top → IsOrderedFrom k top d → AreWithin k fs d → IsConcatenationFrom k fs d
to_concatenation k top [] [] h o w = refl
to_concatenation k top [] (j ∷ d) h o w = absurd (omega arith)
to_concatenation {P} k top (f ∷ fs) d h o w =
    let s : (rest : List ℕ) × (d ≡ replicate (times k d) k ++ rest) × IsOrderedFrom (suc k) top rest = split_first k top d o in
    (times k d, s.0, w 0 k f (omega arith) refl, s.1, to_concatenation (suc k) top fs s.0 (omega arith) s.2 (λ i j g at e. rw (← times-later j k (times k d) s.0 (omega arith), ← s.1) (w (suc i) j g (omega arith) e)))
