-- What is free stays free, and what is held back stays so until the users of what was found are told.
use Rattle.std.proofs.Common.{◌≡◌, ℕ, zero, suc, List, [], ◌∷◌, Some, refl, ap, arith, inl, inr}
use Rattle.std.specs.Prelude.{slice_get, slice_set, Contains}
use Rattle.repo_objects.specs.declared.objects.ElementDef.{ElementDef}
use Rattle.repo_objects.specs.declared.objects.ObjectKind.{ObjectKind}
use Rattle.repo_objects.specs.declared.objects.ObjectKind.TheVariants.{Component, Choice}
use Rattle.repo_objects.specs.Repository.{DictionaryEntry}
use Rattle.reference_check.specs.declared.finite.Mark.{Mark}
use Rattle.reference_check.specs.declared.finite.Mark.TheVariants.{Unreached, Open, Finite}
use Rattle.reference_check.specs.inner.FiniteSearch.{IsFoundAt, IsFree, IsBlocked, AreFree, HoldBack, open_marks}

pub get_set_same : {A : Type 0} (xs : List A) (i : ℕ) (x y : A) → slice_get xs i ≡ Some y → slice_get (slice_set xs i x) i ≡ Some x
get_set_same [] i x y e = absurd cc
get_set_same (z ∷ xs) zero x y e = refl
get_set_same (z ∷ xs) (suc i) x y e = get_set_same xs i x y e

pub get_set_other : {A : Type 0} (xs : List A) (i j : ℕ) (x : A) → (j ≡ i → ⊥) → slice_get (slice_set xs i x) j ≡ slice_get xs j
get_set_other [] i j x h = refl
get_set_other (z ∷ xs) zero zero x h = absurd (h refl)
get_set_other (z ∷ xs) zero (suc j) x h = refl
get_set_other (z ∷ xs) (suc i) zero x h = refl
get_set_other (z ∷ xs) (suc i) (suc j) x h = get_set_other xs i j x (λ e. h (ap suc e))

pub none_in : (k : ℕ) → Contains [] k → ⊥
none_in k (i, within, e) = omega arith

-- ---- from one list of marks to another

module _ (es : List DictionaryEntry) (old new : List Mark) where
  pub free_more : ((k : ℕ) → IsFoundAt old k → IsFoundAt new k) → (d : ElementDef) → IsFree es old d → IsFree es new d
  free_more more d (inl z) = inl z
  free_more more d (inr (k, leads, found)) = inr (k, leads, more k found)

  pub are_free_more : ((k : ℕ) → IsFoundAt old k → IsFoundAt new k) → (ds : List ElementDef) (low high : ℕ) → AreFree es old ds low high → AreFree es new ds low high
  are_free_more more ds low high h = λ i d l r at. free_more more d (h i d l r at)

  module _ (untold told : List ℕ) (some : (k : ℕ) → IsFoundAt new k → (IsFoundAt old k → Contains untold k) → Contains told k) where
    pub blocked_more : (d : ElementDef) → IsBlocked es old untold d → IsBlocked es new told d
    blocked_more d (must, each) = (must, λ k leads found. some k found (each k leads))

    pub held_more : (kind : ObjectKind) (ds : List ElementDef) → HoldBack es old untold kind ds → HoldBack es new told kind ds
    held_more Component ds (i, d, at, h) = (i, d, at, blocked_more d h)
    held_more Choice ds h = λ i d at. blocked_more d (h i d at)
    held_more kind ds h = absurd h

-- ---- how many are open

pub count_open : (marks : List Mark) (p n free : ℕ) → slice_get marks p ≡ Some (Open n) → open_marks (slice_set marks p (Open free)) ≡ open_marks marks
count_open [] p n free e = absurd cc
count_open (Unreached ∷ marks) zero n free e = absurd cc
count_open (Open x ∷ marks) zero n free e = refl
count_open (Finite ∷ marks) zero n free e = absurd cc
count_open (Unreached ∷ marks) (suc p) n free e = count_open marks p n free e
count_open (Open x ∷ marks) (suc p) n free e = ap suc (count_open marks p n free e)
count_open (Finite ∷ marks) (suc p) n free e = count_open marks p n free e

pub count_found : (marks : List Mark) (p n : ℕ) → slice_get marks p ≡ Some (Open n) → suc (open_marks (slice_set marks p Finite)) ≡ open_marks marks
count_found [] p n e = absurd cc
count_found (Unreached ∷ marks) zero n e = absurd cc
count_found (Open x ∷ marks) zero n e = refl
count_found (Finite ∷ marks) zero n e = absurd cc
count_found (Unreached ∷ marks) (suc p) n e = count_found marks p n e
count_found (Open x ∷ marks) (suc p) n e = ap suc (count_found marks p n e)
count_found (Finite ∷ marks) (suc p) n e = count_found marks p n e
