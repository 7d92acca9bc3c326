-- The names in a start tag, expanded by its own declarations and those of the tags round it.
use Rattle.std.proofs.Common.{◌≡◌, ℕ, ◌+◌, ◌≤◌, ◌⊎◌, inl, inr, false, List, [], ◌∷◌, map, Some, None, refl, sym, ap, ◌∙◌, arith}
use Rattle.std.specs.List.{AllByRecursion}
use Rattle.std.specs.Str.{bytes_eq}
use Rattle.std.proofs.lemmas.Bool.{cases_Bool, true≢false}
use Rattle.lexical_core.specs.Tree.{Entry}
use Rattle.lexical_core.specs.Names.{xmlns}
use Rattle.lexical_core.proofs.EqualBytes.{equal_bytes, bytes_equal, other_bytes}
use Rattle.markup.specs.Events.{declared_prefix, bound_by}
use Rattle.fragments.specs.Plain.{IsPlainEntry}
use Rattle.fragments.specs.Fragment.{is_xml, prefix_of, numbered_declarations, number_among, attribute_written}
use Rattle.respell.proofs.Attributes.{given_as}
use Rattle.respell.proofs.Prefixes.{other_prefix}

-- what an attribute's name is to declarations
pub no_declaration : (nss : List (List ℕ)) (e : Entry) → IsPlainEntry e → declared_prefix (given_as (attribute_written nss e)).name ≡ None
no_declaration nss e p = elim (cases_Bool (bytes_eq e.name.namespace [])) [
  | inl h ↦ rw (h, other_bytes e.name.local xmlns (p.no_default (equal_bytes _ _ h))) refl
  | inr h ↦ elim (cases_Bool (is_xml e.name.namespace)) [
    | inl x ↦ rw (h, x) refl
    | inr x ↦ rw (h, x) refl
  ]
]

pub unbound : (nss : List (List ℕ)) (es : List Entry) (p : List ℕ) → AllByRecursion IsPlainEntry es → bound_by (map given_as (map (attribute_written nss) es)) p ≡ None
unbound nss [] p h = refl
unbound nss (e ∷ es) p h = rw (no_declaration nss e h.0) (unbound nss es p h.1)

-- a prefix that no declaration from this number on has
pub bound_none : (k : ℕ) (nss : List (List ℕ)) (p : List ℕ) → ((j : ℕ) → k ≤ j → bytes_eq (prefix_of j) p ≡ false) → bound_by (map given_as (numbered_declarations k nss)) p ≡ None
bound_none k [] p h = refl
bound_none k (n ∷ nss) p h = rw (h k (omega arith)) (bound_none (k + 1) nss p (λ j le. h j (omega (arith, le))))

abbrev pub IsAmong : List ℕ → List (List ℕ) → Type 0
IsAmong n [] = ⊥
IsAmong n (x ∷ xs) = (x ≡ n) ⊎ IsAmong n xs

pub number_least : (k : ℕ) (nss : List (List ℕ)) (n : List ℕ) → k ≤ number_among k nss n
number_least k [] n = omega arith
number_least k (x ∷ nss) n = elim (cases_Bool (bytes_eq x n)) as (λ _. k ≤ number_among k (x ∷ nss) n) [
  | inl h ↦ rw h (omega arith)
  | inr h ↦ rw h (let l = number_least (k + 1) nss n in omega (arith, l))
]

pub bound_number : (k : ℕ) (nss : List (List ℕ)) (n : List ℕ) → IsAmong n nss → bound_by (map given_as (numbered_declarations k nss)) (prefix_of (number_among k nss n)) ≡ Some n
bound_number k [] n h = absurd h
bound_number k (x ∷ nss) n h = elim (cases_Bool (bytes_eq x n)) as (λ _. bound_by (map given_as (numbered_declarations k (x ∷ nss))) (prefix_of (number_among k (x ∷ nss) n)) ≡ Some n) [
  | inl t ↦ rw (t, bytes_equal (prefix_of k) (prefix_of k) refl) (ap (λ (l : List ℕ). Some l) (equal_bytes x n t))
  | inr f ↦ rw (f, other_prefix k (number_among (k + 1) nss n) (let l = number_least (k + 1) nss n in omega (arith, l))) (bound_number (k + 1) nss n (elim h [ inl e ↦ absurd (true≢false (sym (bytes_equal x n e) ∙ f)) | inr r ↦ r ]))
]
