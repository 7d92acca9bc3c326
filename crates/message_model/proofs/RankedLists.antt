-- A list whose ranks rise is the only one with its members.
use Rattle.std.proofs.Common.{◌≡◌, ℕ, zero, suc, ◌<◌, ◌⊎◌, inl, inr, List, [], ◌∷◌, refl, sym, ap, subst, arith}
use Rattle.std.specs.Prelude.{Contains, AllPairs}

module _ {A : Type 0} (rank : A → ℕ) where
  -- each has a lower rank than all behind it
  abbrev pub AreRanked : List A → Type 0
  AreRanked xs = AllPairs (λ a b. rank a < rank b) xs

  ranked_behind : (x : A) (xs : List A) → AreRanked (x ∷ xs) → AreRanked xs
  ranked_behind x xs up i j d lt below = up (suc i) (suc j) d (omega arith) (omega arith)

  -- what stands behind the first has a higher rank
  first_lowest : (x : A) (xs : List A) (y : A) → AreRanked (x ∷ xs) → Contains xs y → rank x < rank y
  first_lowest x xs y up (k, lt, is) = subst (λ z. rank x < rank z) is (up 0 (suc k) y (omega arith) (omega arith))

  first_or_behind : (x : A) (xs : List A) (y : A) → Contains (x ∷ xs) y → (x ≡ y) ⊎ Contains xs y
  first_or_behind x xs y (zero, lt, is) = inl is
  first_or_behind x xs y (suc k, lt, is) = inr (k, omega arith, is)

  behind_in : (x : A) (xs : List A) (y : A) → Contains xs y → Contains (x ∷ xs) y
  behind_in x xs y (k, lt, is) = (suc k, omega arith, is)

  same_first : (x y : A) (xs ys : List A) → AreRanked (x ∷ xs) → AreRanked (y ∷ ys) → Contains (x ∷ xs) y → Contains (y ∷ ys) x → x ≡ y
  same_first x y xs ys up over here there =
      elim (first_or_behind x xs y here) [
        | inl same ↦ same
        | inr later ↦ elim (first_or_behind y ys x there) [
          | inl same ↦ sym same
          | inr other ↦
              let low : rank x < rank y = first_lowest x xs y up later in
              let high : rank y < rank x = first_lowest y ys x over other in
              absurd (omega arith)
        ]
      ]

  -- what stands in both lists, behind their common first
  only_behind : (x : A) (xs ys : List A) → AreRanked (x ∷ xs) → ((z : A) → Contains (x ∷ xs) z → Contains (x ∷ ys) z) → (z : A) → Contains xs z → Contains ys z
  only_behind x xs ys up same z inside =
      elim (first_or_behind x ys z (same z (behind_in x xs z inside))) [
        | inl first ↦
            let low : rank x < rank z = first_lowest x xs z up inside in
            let level : rank x ≡ rank z = ap rank first in
            absurd (omega arith)
        | inr later ↦ later
      ]

  pub one_ranked : (xs ys : List A) → AreRanked xs → AreRanked ys → ((z : A) → Contains xs z → Contains ys z) → ((z : A) → Contains ys z → Contains xs z) → xs ≡ ys
  one_ranked [] [] up over to from = refl
  one_ranked [] (y ∷ ys) up over to from = (let none : Contains [] y = from y (0, omega arith, refl) in absurd (omega (arith, none.1)))
  one_ranked (x ∷ xs) [] up over to from = (let none : Contains [] x = to x (0, omega arith, refl) in absurd (omega (arith, none.1)))
  one_ranked (x ∷ xs) (y ∷ ys) up over to from =
      let first : x ≡ y = same_first x y xs ys up over (from y (0, omega arith, refl)) (to x (0, omega arith, refl)) in
      let down : AreRanked (x ∷ ys) = subst (λ z. AreRanked (z ∷ ys)) (sym first) over in
      let ahead : (z : A) → Contains (x ∷ xs) z → Contains (x ∷ ys) z = λ z h. subst (λ w. Contains (w ∷ ys) z) (sym first) (to z h) in
      let back : (z : A) → Contains (x ∷ ys) z → Contains (x ∷ xs) z = λ z h. from z (subst (λ w. Contains (w ∷ ys) z) first h) in
      let rest : xs ≡ ys = one_ranked xs ys (ranked_behind x xs up) (ranked_behind y ys over) (only_behind x xs ys up ahead) (only_behind x ys xs down back) in
      λ i. first i ∷ rest i
