-- Items of a list by their numbers.
use Rattle.std.proofs.Common.{◌≡◌, ℕ, zero, suc, ◌<◌, ◌≤◌, ◌+◌, ◌⊎◌, inl, inr, List, length, get_or, Some, Contains, refl, sym, ap, subst, ◌∙◌, arith}
use Rattle.std.specs.Prelude.{slice_get}
use Rattle.std.proofs.lemmas.Option.{slice_get_within, get_or_from_slice_get, slice_get-get_or}

-- one of the items before n, or the n-th
pub below_or_last : (k n : ℕ) → k < n + 1 → (k < n) ⊎ (k ≡ n)
below_or_last zero zero h = inr refl
below_or_last zero (suc n) h = inl (omega arith)
below_or_last (suc k) zero h = absurd (omega (arith, h))
below_or_last (suc k) (suc n) h = elim (below_or_last k n (omega arith)) [ inl less ↦ inl (omega arith) | inr same ↦ inr (ap (λ v. suc v) same) ]

-- the item of that number
pub item_at : {X : Type 0} (xs : List X) (i : ℕ) (x : X) → i < length xs → x ≡ get_or xs i x → slice_get xs i ≡ Some x
item_at xs i x l is = slice_get-get_or xs i x l ∙ ap Some (sym is)

pub contained : {X : Type 0} (xs : List X) (i : ℕ) (x : X) → slice_get xs i ≡ Some x → Contains xs x
contained xs i x at = (i, slice_get_within xs i x at, get_or_from_slice_get xs i x x at)

pub item_of : {X : Type 0} (xs : List X) (x : X) → Contains xs x → (i : ℕ) × (i < length xs) × (slice_get xs i ≡ Some x)
item_of xs x (i, l, is) = (i, l, slice_get-get_or xs i x l ∙ ap Some is)

pub one_item : {X : Type 0} (xs : List X) (i j : ℕ) (x y : X) → i ≡ j → slice_get xs i ≡ Some x → slice_get xs j ≡ Some y → x ≡ y
one_item xs i j x y e at other = let same : Some x ≡ Some y = sym at ∙ ap (slice_get xs) e ∙ other in cc

-- none of the items before n is one that P says
abbrev pub NoneBefore : {X : Type 0} → (X → Type 0) → List X → ℕ → Type 0
NoneBefore {X} P xs n = (k : ℕ) (x : X) → k < n → slice_get xs k ≡ Some x → P x → ⊥

pub none_before_more : {X : Type 0} (P : X → Type 0) (xs : List X) (n : ℕ) (x : X) → NoneBefore P xs n → slice_get xs n ≡ Some x → (P x → ⊥) → NoneBefore P xs (n + 1)
none_before_more {X} P xs n x none at fine k y less there says =
    elim (below_or_last k n less) [
      | inl before ↦ none k y before there says
      | inr here ↦ fine (subst P (one_item xs k n y x here there at) says)
    ]

pub none_contained : {X : Type 0} (P : X → Type 0) (xs : List X) (n : ℕ) → NoneBefore P xs n → length xs ≤ n → (x : X) → Contains xs x → P x → ⊥
none_contained P xs n none whole x in_xs says = let (i, l, at) = item_of xs x in_xs in none i x (omega arith) at says

-- an item of a list that is read through another name
pub item_in : {X : Type 0} (items xs : List X) (i : ℕ) (x : X) → items ≡ xs → i < length items → x ≡ get_or items i x → slice_get xs i ≡ Some x
item_in items xs i x are l is = ap (λ ys. slice_get ys i) (sym are) ∙ item_at items i x l is
