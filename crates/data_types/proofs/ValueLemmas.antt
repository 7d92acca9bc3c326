-- Children in order are the values of their slots.
use Rattle.std.proofs.Common.{◌≡◌, ℕ, ◌<◌, ◌≤◌, ◌⊎◌, inl, inr, List, [], ◌∷◌, if◌then◌else◌, ◌==◌, refl, sym, ◌∙◌, arith}
use Rattle.std.proofs.lemmas.Bool.Decides.{nat_tests}
use Rattle.lexical_core.proofs.Tests.{compared}
use Rattle.data_types.specs.Value.{Value, Children, Nothing, Child, values_at, IsOrdered, AreOrderedFrom, AreOrdered}

first_here : (k : ℕ) (v : Value) (r : List Value) → (if k == k then v ∷ r else r) ≡ v ∷ r
first_here k v r = grind (arith, nat_tests)

ordered-weaken : (low low' : ℕ) (children : Children) → low' ≤ low → AreOrderedFrom low children → AreOrderedFrom low' children
ordered-weaken low low' Nothing h o = tt
ordered-weaken low low' (Child k v rest) h o = (omega (arith, h, o.0), o.1, o.2)

values_below : (k low : ℕ) (children : Children) → k < low → AreOrderedFrom low children → values_at k children ≡ []
values_below k low Nothing h o = refl
values_below k low (Child j v rest) h o = skip k j v (values_at k rest) (omega (arith, h, o.0)) (values_below k j rest (omega (arith, h, o.0)) o.2)
  where
    skip : (k j : ℕ) (v : Value) (r : List Value) → k < j → r ≡ [] → (if j == k then v ∷ r else r) ≡ []
    skip k j v r h e = grind (arith, nat_tests)

values_tails : (k j : ℕ) (v : Value) (r s : List Value) → (if k == j then v ∷ r else r) ≡ (if k == j then v ∷ s else s) → r ≡ s
values_tails k j v r s e = grind (arith, nat_tests)

step : (k j : ℕ) (v w : Value) (xs ys : Children) → IsOrdered v → IsOrdered w → AreOrderedFrom k xs → AreOrderedFrom j ys
    → ((i : ℕ) → values_at i (Child k v xs) ≡ values_at i (Child j w ys)) → (k < j) ⊎ ((k ≡ j) ⊎ (j < k))
    → (((i : ℕ) → values_at i xs ≡ values_at i ys) → xs ≡ ys) → Child k v xs ≡ Child j w ys
step k j v w xs ys ov ow o p same (inl h) rest =
    let e : v ∷ values_at k xs ≡ [] = sym (first_here k v _) ∙ (same k ∙ values_below k j (Child j w ys) h (omega arith, ow, p)) in
    absurd (cc)
step k j v w xs ys ov ow o p same (inr (inr h)) rest =
    let e : w ∷ values_at j ys ≡ [] = sym (first_here j w _) ∙ (sym (same j) ∙ values_below j k (Child k v xs) h (omega arith, ov, o)) in
    absurd (cc)
step k j v w xs ys ov ow o p same (inr (inl h)) rest =
    let at : (i : ℕ) → values_at i (Child k v xs) ≡ values_at i (Child k w ys) = rw (← h) at same in
    let e : v ∷ values_at k xs ≡ w ∷ values_at k ys = sym (first_here k v _) ∙ (at k ∙ first_here k w _) in
    let heads : v ≡ w = cc in
    let tails : xs ≡ ys = rest (λ i. values_tails k i v _ _ (at i ∙ rw heads refl)) in
    cc

same_from : (low : ℕ) (xs ys : Children) → AreOrderedFrom low xs → AreOrderedFrom low ys → ((k : ℕ) → values_at k xs ≡ values_at k ys) → xs ≡ ys
same_from low Nothing Nothing o p same = refl
same_from low Nothing (Child k v ys) o p same = (let e : [] ≡ v ∷ values_at k ys = same k ∙ first_here k v _ in absurd (cc))
same_from low (Child k v xs) Nothing o p same = (let e : v ∷ values_at k xs ≡ [] = sym (first_here k v _) ∙ same k in absurd (cc))
same_from low (Child k v xs) (Child j w ys) o p same =
    step k j v w xs ys o.1 p.1 o.2 p.2 same (compared k j) (λ s. same_from low xs ys (ordered-weaken k low xs o.0 o.2) (ordered-weaken j low ys p.0 p.2) s)

pub children_same : (xs ys : Children) → AreOrdered xs → AreOrdered ys → ((k : ℕ) → values_at k xs ≡ values_at k ys) → xs ≡ ys
children_same xs ys o p same = same_from 0 xs ys o p same
