-- The built-in message breaks no rule of codes, kinds, names and sizes, and none of facets and patterns.
use Rattle.std.proofs.Common.{◌≡◌, ℕ, ◌<◌, ◌≤◌, ◌⊎◌, List, [], ◌∷◌, length, get_or, Some, refl, sym, ap, subst, ◌∙◌, arith, inl, inr}
use Rattle.std.specs.Prelude.{Contains, codes}
use Rattle.std.proofs.lemmas.List.{get_or_default}
use Rattle.std.proofs.lemmas.Option.{slice_get-get_or}
use Rattle.lexical_core.proofs.Lists.{only_one}
use Rattle.repo_objects.specs.Objects.{no_facets}
use Rattle.reference_check.specs.inner.Ranks.{IsLeftOut}
use Rattle.reference_check.specs.Graph.{Place, entry}
use Rattle.reference_check.specs.Reach.{elements_of}
use Rattle.reference_check.specs.Rules.{Breaks, OfObject, HasBadCodes, HasTooMuch, AreReached, schema_names}
use Rattle.reference_check.specs.Rules as rules
use Rattle.reference_check.proofs.Marking.{none_in}
use Rattle.message_model.specs.FacetRules.{HasBadFacets, HasBadLengths, HasBadDigits, HasBadBounds}
use Rattle.message_model.specs.Ready.{HasBadPattern}
use Rattle.drill.specs.BuiltIn.{contents, message_id, text_id, node_id, text_object, node_object}
use Rattle.drill.proofs.ReachedPlaces.{IsPlace, at_message, at_text, at_node, among, of_object}

-- ---- what no object of these is

-- a set without codes
text_codes : HasBadCodes contents text_object → ⊥
text_codes (inl (c, inside, none)) = none_in c inside
text_codes (inr (i, j, a, b, text, lt, ga, gb, ta, tb)) = cc

node_codes : HasBadCodes contents node_object → ⊥
node_codes (inl (c, inside, none)) = none_in c inside
node_codes (inr (i, j, a, b, text, lt, ga, gb, ta, tb)) = cc

pub no_codes : (p : Place) → IsPlace p → Breaks contents message_id rules.BadCodes p → ⊥
no_codes p at of = elim (of_object p (HasBadCodes contents) at of) [ inl h ↦ text_codes h | inr h ↦ node_codes h ]

pub not_left_out : (p : Place) → IsPlace p → Breaks contents message_id rules.LeftOutKind p → ⊥
not_left_out p at of = elim (of_object p IsLeftOut at of) [
  | inl h ↦ elim h [ inl is ↦ cc | inr given ↦ given.0 ]
  | inr h ↦ elim h [ inl is ↦ cc | inr given ↦ given.0 ]
]

-- ---- facets

good_lengths : HasBadLengths text_object.facets → ⊥
good_lengths (inl low) = omega (arith, low)
good_lengths (inr (inl h)) = h
good_lengths (inr (inr h)) = h

no_lengths : HasBadLengths node_object.facets → ⊥
no_lengths (inl h) = h
no_lengths (inr (inl h)) = h
no_lengths (inr (inr h)) = h

-- where the facets of digits and the bounds are absent
good_digits : HasBadDigits no_facets → ⊥
good_digits (inl none) = omega (arith, none)
good_digits (inr (inl many)) = omega (arith, many)
good_digits (inr (inr h)) = h

no_bounds : HasBadBounds no_facets → ⊥
no_bounds (inl h) = h
no_bounds (inr (inl h)) = h
no_bounds (inr (inr (inl h))) = h
no_bounds (inr (inr (inr (inl h)))) = h
no_bounds (inr (inr (inr (inr (inl h))))) = h
no_bounds (inr (inr (inr (inr (inr h))))) = h

text_facets : HasBadFacets text_object → ⊥
text_facets (none, inl lengths) = good_lengths lengths
text_facets (none, inr (inl digits)) = good_digits digits
text_facets (none, inr (inr bounds)) = no_bounds bounds

node_facets : HasBadFacets node_object → ⊥
node_facets (none, inl lengths) = no_lengths lengths
node_facets (none, inr (inl digits)) = good_digits digits
node_facets (none, inr (inr bounds)) = no_bounds bounds

pub good_facets : (p : Place) → IsPlace p → OfObject contents p HasBadFacets → ⊥
good_facets p at of = elim (of_object p HasBadFacets at of) [ inl h ↦ text_facets h | inr h ↦ node_facets h ]

pub no_pattern : (p : Place) → IsPlace p → OfObject contents p HasBadPattern → ⊥
no_pattern p at of = elim (of_object p HasBadPattern at of) [ inl h ↦ h.2 | inr h ↦ h.2 ]

-- ---- names

-- the one name of a place
abbrev name_at : (p : Place) → IsPlace p → List ℕ
name_at p at_message = codes "TreeV01"
name_at p at_text = codes "Max35Text"
name_at p at_node = codes "Node1"

one_name : (p : Place) (at : IsPlace p) → schema_names contents message_id p ≡ name_at p at ∷ []
one_name p at_message = refl
one_name p at_text = refl
one_name p at_node = refl

is_name_at : (p : Place) (at : IsPlace p) (name : List ℕ) → Contains (schema_names contents message_id p) name → name_at p at ≡ name
is_name_at p at name inside = only_one (name_at p at) name (subst (λ xs. Contains xs name) (one_name p at) inside)

not_document : (p : Place) (at : IsPlace p) → name_at p at ≡ codes "Document" → ⊥
not_document p at_message is = cc
not_document p at_text is = cc
not_document p at_node is = cc

one_place : (p q : Place) (at : IsPlace p) (also : IsPlace q) → name_at p at ≡ name_at q also → q ≡ p
one_place p q at_message at_message same = refl
one_place p q at_message at_text same = cc
one_place p q at_message at_node same = cc
one_place p q at_text at_message same = cc
one_place p q at_text at_text same = refl
one_place p q at_text at_node same = cc
one_place p q at_node at_message same = cc
one_place p q at_node at_text same = cc
one_place p q at_node at_node same = refl

pub names_differ : (p : Place) → IsPlace p → Breaks contents message_id rules.NameTwice p → ⊥
names_differ p at (name, inside, inl is) = not_document p at (is_name_at p at name inside ∙ is)
names_differ p at (name, inside, inr (q, reach, other, also)) =
    let there = among q reach in
    other (one_place p q at there (is_name_at p at name inside ∙ sym (is_name_at q there name also)))

-- ---- sizes

few : (p : Place) → IsPlace p → length (elements_of contents message_id p) ≤ 2
few p at_message = omega arith
few p at_text = omega arith
few p at_node = omega arith

text_size : HasTooMuch contents text_object → ⊥
text_size (inl many) = omega (arith, many)
text_size (inr (inl (c, inside, long))) = none_in c inside
text_size (inr (inr (none, has, long))) = long

node_size : HasTooMuch contents node_object → ⊥
node_size (inl many) = omega (arith, many)
node_size (inr (inl (c, inside, long))) = none_in c inside
node_size (inr (inr (none, has, long))) = long

-- the text or the node
one_of_two : (id : List ℕ) → IsPlace (entry id) → (id ≡ text_id) ⊎ (id ≡ node_id)
one_of_two id at_text = inl refl
one_of_two id at_node = inr refl

module _ (ids : List (List ℕ)) (reached : AreReached contents message_id ids) where
  id_at : (k : ℕ) → k < length ids → (get_or ids k [] ≡ text_id) ⊎ (get_or ids k [] ≡ node_id)
  id_at k lt =
      let inside : Contains ids (get_or ids k []) = (k, lt, get_or_default ids k (get_or ids k []) [] lt) in
      one_of_two (get_or ids k []) (among (entry (get_or ids k [])) (reached.1 (get_or ids k []) inside).0)

  apart : (i j : ℕ) (id : List ℕ) → i < j → j < length ids → get_or ids i [] ≡ id → get_or ids j [] ≡ id → ⊥
  apart i j id lt within a b =
      reached.0 i j id lt (slice_get-get_or ids i [] (omega (arith, lt, within)) ∙ ap Some a) (slice_get-get_or ids j [] within ∙ ap Some b)

  -- of three one comes twice
  two_at_most : 2 < length ids → ⊥
  two_at_most many =
      by (id_at 0 (omega (arith, many))) (id_at 1 (omega (arith, many))) (id_at 2 many)
    where
      by : (get_or ids 0 [] ≡ text_id) ⊎ (get_or ids 0 [] ≡ node_id) → (get_or ids 1 [] ≡ text_id) ⊎ (get_or ids 1 [] ≡ node_id)
          → (get_or ids 2 [] ≡ text_id) ⊎ (get_or ids 2 [] ≡ node_id) → ⊥
      by (inl a) (inl b) c = apart 0 1 text_id (omega arith) (omega (arith, many)) a b
      by (inr a) (inr b) c = apart 0 1 node_id (omega arith) (omega (arith, many)) a b
      by (inl a) (inr b) (inl c) = apart 0 2 text_id (omega arith) many a c
      by (inl a) (inr b) (inr c) = apart 1 2 node_id (omega arith) many b c
      by (inr a) (inl b) (inl c) = apart 1 2 text_id (omega arith) many b c
      by (inr a) (inl b) (inr c) = apart 0 2 node_id (omega arith) many a c

pub not_many : (p : Place) → IsPlace p → Breaks contents message_id rules.TooMany p → ⊥
not_many p at (inl many) = (let low = few p at in omega (arith, many, low))
not_many p at (inr (inl of)) = elim (of_object p (HasTooMuch contents) at of) [ inl h ↦ text_size h | inr h ↦ node_size h ]
not_many p at (inr (inr (is, ids, reached, many))) = two_at_most ids reached (omega (arith, many))
