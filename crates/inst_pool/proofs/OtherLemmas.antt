-- The contents that do not fit in nodes, in the order of the places of their pieces.
use Rattle.std.proofs.Common.{◌≡◌, ℕ, zero, suc, ◌+◌, ◌<◌, ◌≤◌, ◌==◌, List, [], ◌∷◌, ◌++◌, length, get_or, cond, Bool, Ok, Err, refl, sym, ap, ◌∙◌, arith, inl, inr}
use Rattle.std.specs.List.Sorted.{IsBinarySearchResult, IsNonDecreasingBy}
use Rattle.std.specs.Ordering.{nat_cmp, ordering_index}
use Rattle.std.proofs.lemmas.Cmp.{ranked}
use Rattle.std.proofs.lemmas.Bool.{cases_lt}
use Rattle.std.proofs.lemmas.Bool.Decides.{nat_tests}
use Rattle.inst_pool.specs.inner.Others.{AreBetween, other_at, HasOther}
use Rattle.inst_pool.specs.declared.content.Content.{Content}
use Rattle.inst_pool.specs.declared.others.Other.{Other}

-- ---- the order of their places

pub between_more : (low high top : ℕ) (others : List Other) → high ≤ top → AreBetween low high others → AreBetween low top others
between_more low high top [] le h = omega (arith, le, h)
between_more low high top (o ∷ others) le h = (h.0, between_more (suc o.at) high top others le h.1)

pub between_push : (low high : ℕ) (others : List Other) (x : Other) → high ≤ x.at → AreBetween low high others → AreBetween low (suc x.at) (others ++ x ∷ [])
between_push low high [] x le h = (omega (arith, le, h), omega arith)
between_push low high (o ∷ others) x le h = (h.0, between_push (suc o.at) high others x le h.1)

-- no more of them than numbers between
pub between_count : (low high : ℕ) (others : List Other) → AreBetween low high others → low + length others ≤ high
between_count low high [] h = omega (arith, h)
between_count low high (o ∷ others) h = (let n = between_count (suc o.at) high others h.1 in omega (arith, h.0, n))

above : (low high : ℕ) (others : List Other) (i : ℕ) (d : Other) → AreBetween low high others → i < length others → low ≤ (get_or others i d).at
above low high [] i d h lt = absurd (omega (arith, lt))
above low high (o ∷ others) zero d h lt = h.0
above low high (o ∷ others) (suc i) d h lt = (let n = above (suc o.at) high others i d h.1 (omega (arith, lt)) in omega (arith, h.0, n))

rise : (low high : ℕ) (others : List Other) (i j : ℕ) (d : Other) → AreBetween low high others → i ≤ j → j < length others → (get_or others i d).at ≤ (get_or others j d).at
rise low high [] i j d h le lt = absurd (omega (arith, lt))
rise low high (o ∷ others) zero zero d h le lt = omega arith
rise low high (o ∷ others) zero (suc j) d h le lt = (let n = above (suc o.at) high others j d h.1 (omega (arith, lt)) in omega (arith, n))
rise low high (o ∷ others) (suc i) zero d h le lt = absurd (omega (arith, le))
rise low high (o ∷ others) (suc i) (suc j) d h le lt = rise (suc o.at) high others i j d h.1 (omega (arith, le)) (omega (arith, lt))

-- ---- the one of a place

pick_same : (a b : ℕ) (x y : Content) → a ≡ b → cond (a == b) x y ≡ x
pick_same a b x y e = grind (arith, nat_tests)

pick_other : (a b : ℕ) (x y : Content) → a < b → cond (a == b) x y ≡ y
pick_other a b x y lt = grind (arith, nat_tests)

-- where one has that place, it is the one that is meant
pub other_there : (low high : ℕ) (others : List Other) (i at : ℕ) (d : Other) → AreBetween low high others → i < length others → (get_or others i d).at ≡ at
    → (get_or others i d).content ≡ other_at others at
other_there low high [] i at d h lt e = absurd (omega (arith, lt))
other_there low high (o ∷ others) zero at d h lt e = sym (pick_same o.at at o.content (other_at others at) e)
other_there low high (o ∷ others) (suc i) at d h lt e =
    let n = above (suc o.at) high others i d h.1 (omega (arith, lt)) in
    other_there (suc o.at) high others i at d h.1 (omega (arith, lt)) e ∙ sym (pick_other o.at at o.content (other_at others at) (omega (arith, n, e)))

-- it stands somewhere
pub has_index : (others : List Other) (at : ℕ) (d : Other) → HasOther others at → (i : ℕ) × (i < length others) × ((get_or others i d).at ≡ at)
has_index [] at d h = absurd h
has_index (o ∷ others) at d (inl e) = (0, omega arith, e)
has_index (o ∷ others) at d (inr h) = (let r = has_index others at d h in (suc r.0, omega (arith, r.1), r.2))

-- one more leaves the others
pub has_more : (others : List Other) (x : Other) (at : ℕ) → HasOther others at → HasOther (others ++ x ∷ []) at
has_more [] x at h = absurd h
has_more (o ∷ others) x at (inl e) = inl e
has_more (o ∷ others) x at (inr h) = inr (has_more others x at h)

pub has_last : (others : List Other) (x : Other) → HasOther (others ++ x ∷ []) x.at
has_last [] x = inl refl
has_last (o ∷ others) x = inr (has_last others x)

same_below : (b : Bool) (x y z : Content) → z ≡ y → cond b x z ≡ cond b x y
same_below b x y z e = ap (cond b x) e

by_first : (o : Other) (others : List Other) (x : Other) (at : ℕ) → o.at ≡ at → other_at (o ∷ others ++ x ∷ []) at ≡ other_at (o ∷ others) at
by_first o others x at e = pick_same o.at at o.content _ e ∙ sym (pick_same o.at at o.content _ e)

pub other_more : (others : List Other) (x : Other) (at : ℕ) → HasOther others at → other_at (others ++ x ∷ []) at ≡ other_at others at
other_more [] x at h = absurd h
other_more (o ∷ others) x at (inl e) = by_first o others x at e
other_more (o ∷ others) x at (inr h) = same_below (o.at == at) o.content (other_at others at) (other_at (others ++ x ∷ []) at) (other_more others x at h)

pub other_last : (low high : ℕ) (others : List Other) (x : Other) → AreBetween low high others → high ≤ x.at → other_at (others ++ x ∷ []) x.at ≡ x.content
other_last low high [] x h le = pick_same x.at x.at x.content _ refl
other_last low high (o ∷ others) x h le =
    let n = between_count (suc o.at) high others h.1 in
    pick_other o.at x.at o.content (other_at (others ++ x ∷ []) x.at) (omega (arith, n, le)) ∙ other_last (suc o.at) high others x h.1 le

-- ---- where a search ends

module _ (high : ℕ) (others : List Other) (order : AreBetween 0 high others) (at : ℕ) where
  rises : IsNonDecreasingBy (λ other. ordering_index (nat_cmp other.at at)) others
  rises i j d le lt = (let n = rise 0 high others i j d order le lt in grind (arith, nat_tests))

  pub search_there : (i : ℕ) → i < length others → IsBinarySearchResult (λ other. nat_cmp other.at at) others (Ok i) → (d : Other) → (get_or others i d).at ≡ at
  search_there i lt equal d = ranked _ at _ (sym (equal d))

  pub search_fails : (i : ℕ) (d : Other) → i ≤ length others → IsBinarySearchResult (λ other. nat_cmp other.at at) others (Err i) → HasOther others at → ⊥
  search_fails i d le parted has =
      let r = has_index others at d has in
      elim (cases_lt r.0 i) [
        | inl below ↦ (let n = ranked _ at _ (sym ((parted rises).0 r.0 d (omega arith) below)) in omega (arith, n, r.2))
        | inr from ↦ (let n = ranked _ at _ (sym ((parted rises).1 r.0 d from r.1)) in omega (arith, n, r.2))
      ]
