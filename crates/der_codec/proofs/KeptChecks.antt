-- Checks by the number of their type.
use Rattle.std.proofs.Common.{◌≡◌, ℕ, zero, suc, ◌<◌, Bool, true, false, cond, List, [], ◌∷◌, ◌++◌, Option, Some, None, refl, sym, ap, subst, arith, ◌∙◌, length, get_or, ◌⊎◌, inl, inr}
use Rattle.std.proofs.lemmas.Bool.{cases_lt}
use Rattle.std.proofs.lemmas.Option.{slice_get_read}
use Rattle.std.specs.Global.{Box}
use Rattle.std.specs.Prelude.{slice_get, slice_set}
use Rattle.lexical_core.proofs.Lists.{get_before, get_set}
use Rattle.facets.specs.declared.simple.Simple.{Simple}
use Rattle.facets.specs.declared.leaf_verdict.LeafVerdict.{LeafVerdict}
use Rattle.reference_check.specs.Forms.{Graph, text_type}
use Rattle.message_model.specs.Tables.{Tables, TypeEntry, types_of, form_or_missing}
use Rattle.der_codec.specs.Checked.{ChecksIfAny, ChecksType}
use Rattle.der_codec.specs.Reserved.{HasCheckAt, IsRoomyCheck, KeepsOthers}

-- a check, as it is kept
abbrev pub Held : Type 0
Held = Box LeafVerdict

abbrev pub KeptIn : Graph ℕ Simple → List (Option Held) → Type 0
KeptIn types xs = (n : ℕ) (check : Held) → slice_get xs n ≡ Some (Some check) → ChecksType types n check.value

pub pushed : (types : Graph ℕ Simple) (xs ys : List (Option Held)) (b : Bool) → ys ≡ cond b (xs ++ None ∷ []) xs → KeptIn types xs → KeptIn types ys
pushed types xs ys true e h n check found = h n check (get_before xs n check (ap (λ v. slice_get v n) (sym e) ∙ found))
pushed types xs ys false e h n check found = h n check (ap (λ v. slice_get v n) (sym e) ∙ found)

pub set_one : (types : Graph ℕ Simple) (xs : List (Option Held)) (k : ℕ) (o : Option Held) → ChecksIfAny types k o → KeptIn types xs → KeptIn types (slice_set xs k o)
set_one types xs k o made h n check found = go (get_set xs k n o check found)
  where
    go : ((n ≡ k) × (o ≡ Some check)) ⊎ (slice_get xs n ≡ Some (Some check)) → ChecksType types n check.value
    go (inl (e, q)) = subst (λ (i : ℕ). ChecksType types i check.value) (sym e) (subst (ChecksIfAny types k) q made)
    go (inr q) = h n check q

pub taken_at : (types : Graph ℕ Simple) (xs : List (Option Held)) (n : ℕ) (o : Option Held) → KeptIn types xs → n < length xs → o ≡ get_or xs n o → ChecksIfAny types n o
taken_at types xs n None h l e = tt
taken_at types xs n (Some check) h l e = h n check (slice_get_read xs (length xs) n (Some check) refl l e)

-- ---- the room of checks

found_other : (xs : List (Option Held)) (k n : ℕ) (o : Option Held) → (n ≡ k → ⊥) → slice_get (slice_set xs k o) n ≡ slice_get xs n
found_other [] k n o other = refl
found_other (x ∷ xs) zero zero o other = absurd (other refl)
found_other (x ∷ xs) zero (suc n) o other = refl
found_other (x ∷ xs) (suc k) zero o other = refl
found_other (x ∷ xs) (suc k) (suc n) o other = found_other xs k n o (λ e. other (ap suc e))

found_there : (xs : List (Option Held)) (k : ℕ) (o : Option Held) → k < length xs → slice_get (slice_set xs k o) k ≡ Some o
found_there [] k o low = absurd (omega (arith, low))
found_there (x ∷ xs) zero o low = refl
found_there (x ∷ xs) (suc k) o low = found_there xs k o (omega (arith, low))

pub set_other : (bytes : ℕ) (xs : List (Option Held)) (k n : ℕ) (o : Option Held) → (n ≡ k → ⊥) → HasCheckAt bytes xs n → HasCheckAt bytes (slice_set xs k o) n
set_other bytes xs k n o other h = record { check = h.check; there = found_other xs k n o other ∙ h.there; roomy = h.roomy }

pub set_there : (bytes : ℕ) (xs : List (Option Held)) (k : ℕ) (check : Held) → IsRoomyCheck bytes (Some check) → k < length xs → HasCheckAt bytes (slice_set xs k (Some check)) k
set_there bytes xs k check roomy low = record { check = check; there = found_there xs k (Some check) low; roomy = roomy }

-- one more without a check
found_before : (xs : List (Option Held)) (n : ℕ) (check : Held) → slice_get xs n ≡ Some (Some check) → slice_get (xs ++ None ∷ []) n ≡ Some (Some check)
found_before [] n check e = absurd cc
found_before (x ∷ xs) zero check e = e
found_before (x ∷ xs) (suc n) check e = found_before xs n check e

pub pushed_there : (bytes n : ℕ) (xs ys : List (Option Held)) (b : Bool) → ys ≡ cond b (xs ++ None ∷ []) xs → HasCheckAt bytes xs n → HasCheckAt bytes ys n
pushed_there bytes n xs ys true e h = record { check = h.check; there = ap (λ v. slice_get v n) e ∙ found_before xs n h.check h.there; roomy = h.roomy }
pushed_there bytes n xs ys false e h = record { check = h.check; there = ap (λ v. slice_get v n) e ∙ h.there; roomy = h.roomy }

-- the check that is found is that one
pub found_roomy : (bytes : ℕ) (xs : List (Option Held)) (n : ℕ) (o : Option Held) → HasCheckAt bytes xs n → o ≡ get_or xs n o → n < length xs → IsRoomyCheck bytes o
found_roomy bytes xs n o h e low = subst (IsRoomyCheck bytes) (sym (e ∙ read_there xs n (Some h.check) o h.there)) h.roomy
  where
    read_there : (xs : List (Option Held)) (n : ℕ) (x d : Option Held) → slice_get xs n ≡ Some x → get_or xs n d ≡ x
    read_there [] n x d e = absurd cc
    read_there (y ∷ xs) zero x d e = cc
    read_there (y ∷ xs) (suc n) x d e = read_there xs n x d e

pub there_within : (bytes : ℕ) (xs : List (Option Held)) (n : ℕ) → HasCheckAt bytes xs n → n < length xs
there_within bytes xs n h = low xs n (Some h.check) h.there
  where
    low : (xs : List (Option Held)) (n : ℕ) (x : Option Held) → slice_get xs n ≡ Some x → n < length xs
    low [] n x e = absurd cc
    low (y ∷ xs) zero x e = omega arith
    low (y ∷ xs) (suc n) x e = (let r = low xs n x e in omega (arith, r))

-- all are kept where that of one type is
pub all_kept : (bytes k : ℕ) (old new : List (Option Held)) → KeepsOthers k old new → (HasCheckAt bytes old k → HasCheckAt bytes new k) → (n : ℕ) → HasCheckAt bytes old n → HasCheckAt bytes new n
all_kept bytes k old new others there n h = elim (cases_lt n k) [
  | inl low ↦ others bytes n (λ e. absurd (omega (arith, low, e))) h
  | inr high ↦ elim (cases_lt k n) [
    | inl low ↦ others bytes n (λ e. absurd (omega (arith, low, e))) h
    | inr back ↦ (let same : n ≡ k = omega (arith, high, back) in subst (HasCheckAt bytes new) (sym same) (there (subst (HasCheckAt bytes old) same h)))
  ]
]

-- a number with a simple type is that of a type
pub text_there : (T : Tables) (n : ℕ) (simple : Simple) → text_type (types_of T n) ≡ Some simple → n < length T.types
text_there T n simple is = low T.types n is
  where
    low : (entries : List TypeEntry) (n : ℕ) → text_type (form_or_missing (slice_get entries n)) ≡ Some simple → n < length entries
    low [] n e = absurd cc
    low (x ∷ entries) zero e = omega arith
    low (x ∷ entries) (suc n) e = (let r = low entries n e in omega (arith, r))
