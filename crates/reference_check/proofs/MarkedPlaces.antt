-- The places of marks, rising.
use Rattle.std.proofs.Common.{◌≡◌, ℕ, ◌+◌, ◌<◌, Bool, true, false, List, [], ◌∷◌, ◌++◌, get_or, subst, arith, inl, inr, Contains}
use Rattle.std.specs.Prelude.{AllPairs}
use Rattle.std.proofs.lemmas.Bool.{cases_lt}
use Rattle.std.proofs.lemmas.List.Elements.{Contains-append_left, Contains-append_right, Contains-append_cases, Contains-get_or}
use Rattle.std.proofs.lemmas.List.Quantifiers.{all_pairs_push}
use Rattle.lexical_core.proofs.Lists.{only_one}
use Rattle.reference_check.specs.inner.Marking.{IsObjectMarked}
use Rattle.reference_check.proofs.Lookups.{first_in}

-- the marked places below a bound
pub record ArePlaces (n : ℕ) (marked : List Bool) (places : List ℕ) : Type 0 where
  pub rising : AllPairs (λ i j. i < j) places
  pub within : (k : ℕ) → Contains places k → (k < n) × IsObjectMarked marked k
  pub all : (k : ℕ) → k < n → IsObjectMarked marked k → Contains places k

pub place_more : (n : ℕ) (marked : List Bool) (places : List ℕ) → ArePlaces n marked places → IsObjectMarked marked n → ArePlaces (n + 1) marked (places ++ n ∷ [])
place_more n marked places so_far is = record {
  rising = all_pairs_push (λ i j. i < j) places n so_far.rising (λ k d l. (so_far.within (get_or places k d) (Contains-get_or places k d l)).0);
  within = λ k has. elim (Contains-append_cases places (n ∷ []) k has) [
    | inl h ↦ (let w : (k < n) × IsObjectMarked marked k = so_far.within k h in (omega arith, w.1))
    | inr h ↦ (let same : n ≡ k = only_one n k h in (omega arith, subst (λ j. IsObjectMarked marked j) same is))
  ];
  all = λ k l is_k. by k l is_k;
}
  where
    by : (k : ℕ) → k < n + 1 → IsObjectMarked marked k → Contains (places ++ n ∷ []) k
    by k l is_k = elim (cases_lt k n) [
      | inl lt ↦ Contains-append_left places (n ∷ []) k (so_far.all k lt is_k)
      | inr past ↦ (let same : n ≡ k = omega arith in subst (λ j. Contains (places ++ n ∷ []) j) same (Contains-append_right places (n ∷ []) n (first_in n [])))
    ]

pub place_not : (n : ℕ) (marked : List Bool) (places : List ℕ) → ArePlaces n marked places → get_or marked n false ≡ false → ArePlaces (n + 1) marked places
place_not n marked places so_far off = record {
  rising = so_far.rising;
  within = λ k has. (let w : (k < n) × IsObjectMarked marked k = so_far.within k has in (omega arith, w.1));
  all = λ k l is. by k l is;
}
  where
    by : (k : ℕ) → k < n + 1 → IsObjectMarked marked k → Contains places k
    by k l is = elim (cases_lt k n) [
      | inl lt ↦ so_far.all k lt is
      | inr past ↦ (let same : k ≡ n = omega arith in absurd (let on : get_or marked n false ≡ true = subst (λ j. IsObjectMarked marked j) same is in cc))
    ]
