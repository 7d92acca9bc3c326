-- Lists of names in which none stands twice.
use Rattle.std.proofs.Common.{◌≡◌, ℕ, suc, ◌<◌, false, inl, inr, List, [], ◌∷◌, ◌++◌, flat_map, Some, refl, sym, subst, arith}
use Rattle.std.specs.Prelude.{slice_get, Contains}
use Rattle.std.specs.List.{AllByRecursion, IsDistinct}
use Rattle.std.specs.Str.{bytes_eq}
use Rattle.std.proofs.lemmas.List.Elements.{Contains-append_right, Contains-append_cases}
use Rattle.std.proofs.lemmas.Map.Keys.{IsDistinct-head, IsDistinct-tail, IsDistinct-cons, IsDistinct-from_apart}
use Rattle.lexical_core.proofs.EqualBytes.{other_bytes}
use Rattle.reference_check.proofs.Lookups.{first_in}

-- what holds of each name in a list
pub all_from : (P : List ℕ → Type 0) (xs : List (List ℕ)) → ((name : List ℕ) → Contains xs name → P name) → AllByRecursion P xs
all_from P [] each = tt
all_from P (x ∷ xs) each = (each x (first_in x xs), all_from P xs (λ name has. each name (Contains-append_right (x ∷ []) xs name has)))

all_append : (P : List ℕ → Type 0) (xs ys : List (List ℕ)) → AllByRecursion P xs → AllByRecursion P ys → AllByRecursion P (xs ++ ys)
all_append P [] ys all later = later
all_append P (x ∷ xs) ys all later = (all.0, all_append P xs ys all.1 later)

pub distinct_none : IsDistinct bytes_eq []
distinct_none = IsDistinct-from_apart bytes_eq [] (λ i j d lt below. absurd (omega (arith, below)))

pub distinct_one : (a : List ℕ) → IsDistinct bytes_eq (a ∷ [])
distinct_one a = IsDistinct-cons bytes_eq a [] tt distinct_none

pub distinct_two : (a b : List ℕ) → (a ≡ b → ⊥) → IsDistinct bytes_eq (a ∷ (b ∷ []))
distinct_two a b apart = IsDistinct-cons bytes_eq a (b ∷ []) (other_bytes a b apart, tt) (distinct_one b)

distinct_append : (xs ys : List (List ℕ)) → IsDistinct bytes_eq xs → IsDistinct bytes_eq ys → ((name : List ℕ) → Contains xs name → Contains ys name → ⊥) → IsDistinct bytes_eq (xs ++ ys)
distinct_append [] ys own later apart = later
distinct_append (x ∷ xs) ys own later apart =
    let other : AllByRecursion (λ name. bytes_eq x name ≡ false) ys =
    all_from (λ name. bytes_eq x name ≡ false) ys (λ name has. other_bytes x name (λ same. apart x (first_in x xs) (subst (λ n. Contains ys n) (sym same) has))) in
    IsDistinct-cons bytes_eq x (xs ++ ys) (all_append (λ name. bytes_eq x name ≡ false) xs ys (IsDistinct-head bytes_eq x xs own) other)
    (distinct_append xs ys (IsDistinct-tail bytes_eq x xs own) later (λ name has. apart name (Contains-append_right (x ∷ []) xs name has)))

-- ---- the names of one after the other

pub in_some : {A : Type 0} (f : A → List (List ℕ)) (xs : List A) (name : List ℕ) → Contains (flat_map f xs) name → (k : ℕ) × (x : A) × (slice_get xs k ≡ Some x) × Contains (f x) name
in_some f [] name has = (let below = has.1 in absurd (omega (arith, below)))
in_some f (x ∷ xs) name has = elim (Contains-append_cases (f x) (flat_map f xs) name has) [
  | inl own ↦ (0, x, refl, own)
  | inr later ↦ (let r = in_some f xs name later in (suc r.0, r.1, r.2, r.3))
]

pub distinct_flat : {A : Type 0} (f : A → List (List ℕ)) (xs : List A) → ((x : A) → IsDistinct bytes_eq (f x))
    → ((a b : ℕ) (x y : A) (name : List ℕ) → a < b → slice_get xs a ≡ Some x → slice_get xs b ≡ Some y → Contains (f x) name → Contains (f y) name → ⊥) → IsDistinct bytes_eq (flat_map f xs)
distinct_flat f [] own apart = distinct_none
distinct_flat f (x ∷ xs) own apart =
    distinct_append (f x) (flat_map f xs) (own x) (distinct_flat f xs own (λ a b y z name lt. apart (suc a) (suc b) y z name (omega (arith, lt))))
    (λ name has later. let r = in_some f xs name later in apart 0 (suc r.0) x r.1 name (omega arith) refl r.2 has r.3)
