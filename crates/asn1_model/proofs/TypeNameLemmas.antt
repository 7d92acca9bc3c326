-- The names of types by their places.
use Rattle.std.proofs.Common.{◌≡◌, ℕ, suc, ◌<◌, List, [], ◌∷◌, length, map, get_or, None, inl, inr, refl, sym, ap, ◌∙◌, arith}
use Rattle.std.specs.Prelude.{slice_get}
use Rattle.std.specs.Option.{unwrap_or}
use Rattle.std.proofs.lemmas.Bool.{cases_lt}
use Rattle.std.proofs.lemmas.List.{get_or_past}
use Rattle.std.proofs.lemmas.Option.{unwrap_or-slice_get}
use Rattle.message_model.specs.Tables.{Tables}
use Rattle.asn1_model.specs.declared.order.NamedType.{NamedType}
use Rattle.asn1_model.specs.declared.type_names.TypeNames.{TypeNames}
use Rattle.asn1_model.specs.Names.{given_names, given_after, first_free}
use Rattle.asn1_model.specs.ModuleOf.{by_name, names_given, asn_name_of, name_in, type_name_of}
use Rattle.asn1_model.specs.inner.Order.{numbered_type}
use Rattle.asn1_model.specs.inner.Places.{name_at}
use Rattle.asn1_model.specs.inner.TypeNames.{AreNames}
use Rattle.asn1_model.proofs.NumberedTypes.{name_none}

-- as many names are given as there are
pub length-given : (taken names : List (List ℕ)) → length (given_after taken names) ≡ length names
length-given taken [] = refl
length-given taken (n ∷ ns) = ap (λ k. suc k) (length-given (first_free (length taken) taken n 0 ∷ taken) ns)

length-mapped : {X Y : Type 0} (f : X → Y) (xs : List X) → length (map f xs) ≡ length xs
length-mapped f [] = refl
length-mapped f (x ∷ xs) = ap (λ k. suc k) (length-mapped f xs)

-- as many names are given as there are types
pub length-names : (types : List NamedType) → length (given_names (map type_name_of (map numbered_type types))) ≡ length types
length-names types =
    length-given [] (map type_name_of (map numbered_type types)) ∙ length-mapped type_name_of (map numbered_type types) ∙ length-mapped numbered_type types

-- what is found by places is the name, or there is no such type
pub names_are : (names : TypeNames) (T : Tables) → names.given ≡ names_given T → length names.places.items ≡ length T.types
    → ((p : ℕ) → p < length T.types → name_at names.places.items names.given p ≡ name_in (by_name T) names.given p) → AreNames names T
names_are names T given count named = record { given = given; named = λ p. at p ∙ ap (λ ns. name_in (by_name T) ns p) given }
  where
    at : (p : ℕ) → name_at names.places.items names.given p ≡ name_in (by_name T) names.given p
    at p = elim (cases_lt p (length T.types)) [
      | inl inside ↦ named p inside
      | inr outside ↦
          ap (λ k. get_or names.given k []) (get_or_past names.places.items p (length names.given) (omega (arith, count, outside)))
          ∙ get_or_past names.given (length names.given) [] (omega arith) ∙ sym (name_none T p names.given outside)
    ]

-- the name that is found, or none
pub found_name : (names : TypeNames) (T : Tables) (number place : ℕ) → AreNames names T → place ≡ get_or names.places.items number (length names.given)
    → unwrap_or (slice_get names.given place) [] ≡ asn_name_of T number
found_name names T number place are is = unwrap_or-slice_get names.given place [] ∙ ap (λ k. get_or names.given k []) is ∙ are.named number

-- where there is no name, there is no such type
pub found_none : (names : TypeNames) (T : Tables) (number place : ℕ) → AreNames names T → place ≡ get_or names.places.items number (length names.given) → None ≡ slice_get names.given place → [] ≡ asn_name_of T number
found_none names T number place are is none = ap (λ o. unwrap_or o []) none ∙ found_name names T number place are is
