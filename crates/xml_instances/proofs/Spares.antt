-- Checks by the number of their type.
use Rattle.std.proofs.Common.{◌≡◌, ℕ, Bool, true, false, cond, List, [], ◌∷◌, ◌++◌, Option, Some, None, sym, ap, subst, ◌∙◌, ◌⊎◌, inl, inr}
use Rattle.std.specs.Global.{Box}
use Rattle.std.specs.Prelude.{slice_get, slice_set}
use Rattle.lexical_core.proofs.Lists.{get_before, get_set}
use Rattle.xml_instances.specs.declared.judge.Judge.{Judge}

-- a check, as it is kept
abbrev pub Held : Type 0
Held = Box Judge

-- what each of them is
abbrev pub KeptIn : (ℕ → Judge → Type 0) → List (Option Held) → Type 0
KeptIn P xs = (n : ℕ) (check : Held) → slice_get xs n ≡ Some (Some check) → P n check.value

abbrev pub IsAt : (ℕ → Judge → Type 0) → ℕ → Option Held → Type 0
IsAt P n None = Unit {0}
IsAt P n (Some check) = P n check.value

pub pushed : (P : ℕ → Judge → Type 0) (xs ys : List (Option Held)) (b : Bool) → ys ≡ cond b (xs ++ None ∷ []) xs → KeptIn P xs → KeptIn P ys
pushed P xs ys true e h n check found = h n check (get_before xs n check (ap (λ v. slice_get v n) (sym e) ∙ found))
pushed P xs ys false e h n check found = h n check (ap (λ v. slice_get v n) (sym e) ∙ found)

pub set_one : (P : ℕ → Judge → Type 0) (xs : List (Option Held)) (k : ℕ) (o : Option Held) → IsAt P k o → KeptIn P xs → KeptIn P (slice_set xs k o)
set_one P xs k o made h n check found = go (get_set xs k n o check found)
  where
    go : ((n ≡ k) × (o ≡ Some check)) ⊎ (slice_get xs n ≡ Some (Some check)) → P n check.value
    go (inl (e, q)) = subst (λ (i : ℕ). P i check.value) (sym e) (subst (IsAt P k) q made)
    go (inr q) = h n check q
