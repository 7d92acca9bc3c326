-- A message that breaks no rule has one list of tables.
use Rattle.std.proofs.Common.{◌≡◌, ℕ, zero, suc, ◌+◌, ◌<◌, List, [], ◌∷◌, length, map, get_or, Some, refl, sym, ap, subst, ◌∙◌, arith, inl, inr}
use Rattle.std.specs.Prelude.{slice_get}
use Rattle.std.specs.Option.{option_map}
use Rattle.std.proofs.lemmas.Bool.{cases_lt}
use Rattle.std.proofs.lemmas.Option.{slice_get-map, slice_get_past, slice_get-get_or}
use Rattle.facets.specs.declared.simple.Simple.{Simple}
use Rattle.repo_objects.specs.Repository.{Contents}
use Rattle.reference_check.specs.Forms.{Slot, Money, form_slots}
use Rattle.reference_check.specs.Forms as form
use Rattle.reference_check.specs.Graph.{document, message, entry}
use Rattle.reference_check.specs.Reach.{rank_of}
use Rattle.message_model.specs.Compiled.{Compiles, IsReachedList, place_of, place_or_nowhere}
use Rattle.message_model.specs.Laws.{OneModel}
use Rattle.message_model.specs.Ready.{IsReady}
use Rattle.message_model.specs.Tables.{Tables, TypeEntry, types_of, form_or_missing}
use Rattle.message_model.proofs.OneForm.{IsLinked, one_form}
use Rattle.message_model.proofs.RankedLists.{one_ranked}
use Rattle.message_model.proofs.SoundTables.{each_once, type_count, tables_codes, tables_linked}

-- ---- the numbers of places

-- the number of an object's type
object_number : (ids : List (List ℕ)) (i : ℕ) → i < length ids → (id : List ℕ) × (slice_get ids i ≡ Some id) × (place_of ids (suc (suc i)) ≡ entry id)
object_number ids i lt =
    let at : slice_get ids i ≡ Some (get_or ids i []) = slice_get-get_or ids i [] lt in
    let there : slice_get (map entry ids) i ≡ Some (entry (get_or ids i [])) = slice_get-map entry ids i ∙ ap (option_map entry) at in
    (get_or ids i [], at, ap place_or_nowhere there)

module _ (ids : List (List ℕ)) (apart : (i j : ℕ) (a : List ℕ) → i < j → slice_get ids i ≡ Some a → slice_get ids j ≡ Some a → ⊥) where
  one_index : (i j : ℕ) (a : List ℕ) → slice_get ids i ≡ Some a → slice_get ids j ≡ Some a → i ≡ j
  one_index i j a here also =
      elim (cases_lt i j) [
        | inl below ↦ absurd (apart i j a below here also)
        | inr past ↦ elim (cases_lt j i) [
          | inl below ↦ absurd (apart j i a below also here)
          | inr other ↦ omega arith
        ]
      ]

  -- no two numbers are of one place
  one_number : (a b : ℕ) → a < length ids + 2 → b < length ids + 2 → place_of ids a ≡ place_of ids b → a ≡ b
  one_number zero zero la lb same = refl
  one_number zero (suc zero) la lb same = absurd cc
  one_number zero (suc (suc j)) la lb same = (let t = object_number ids j (omega arith) in let wrong : document ≡ entry t.0 = same ∙ t.2 in absurd cc)
  one_number (suc zero) zero la lb same = absurd cc
  one_number (suc zero) (suc zero) la lb same = refl
  one_number (suc zero) (suc (suc j)) la lb same = (let t = object_number ids j (omega arith) in let wrong : message ≡ entry t.0 = same ∙ t.2 in absurd cc)
  one_number (suc (suc i)) zero la lb same = (let t = object_number ids i (omega arith) in let wrong : document ≡ entry t.0 = sym same ∙ t.2 in absurd cc)
  one_number (suc (suc i)) (suc zero) la lb same = (let t = object_number ids i (omega arith) in let wrong : message ≡ entry t.0 = sym same ∙ t.2 in absurd cc)
  one_number (suc (suc i)) (suc (suc j)) la lb same =
      let t = object_number ids i (omega arith) in
      let u = object_number ids j (omega arith) in
      let entries : entry t.0 ≡ entry u.0 = sym t.2 ∙ (same ∙ u.2) in
      let names : t.0 ≡ u.0 = cc in
      ap (λ k. suc (suc k)) (one_index i j u.0 (t.1 ∙ ap Some names) u.1)

-- ---- the types

-- types are the same by their words, names and forms
one_types : (ts us : List TypeEntry) → map (λ (t : TypeEntry). t.word) ts ≡ map (λ (t : TypeEntry). t.word) us → map (λ (t : TypeEntry). t.name) ts ≡ map (λ (t : TypeEntry). t.name) us
    → ((n : ℕ) → form_or_missing (slice_get ts n) ≡ form_or_missing (slice_get us n)) → ts ≡ us
one_types [] [] words names forms = refl
one_types [] (u ∷ us) words names forms = absurd cc
one_types (t ∷ ts) [] words names forms = absurd cc
one_types (t ∷ ts) (u ∷ us) words names forms =
    let word : t.word ≡ u.word = cc in
    let name : t.name ≡ u.name = cc in
    let form : t.form ≡ u.form = forms 0 in
    let first : t ≡ u = λ i. record { word = word i; name = name i; form = form i } in
    let more_words : map (λ (t : TypeEntry). t.word) ts ≡ map (λ (t : TypeEntry). t.word) us = cc in
    let more_names : map (λ (t : TypeEntry). t.name) ts ≡ map (λ (t : TypeEntry). t.name) us = cc in
    let rest : ts ≡ us = one_types ts us more_words more_names (λ n. forms (suc n)) in
    λ i. first i ∷ rest i

module _ (R : Contents) (m : List ℕ) (ready : IsReady R m) (ids : List (List ℕ)) (list : IsReachedList R m ids) where
  abbrev IsNumber : ℕ → Type 0
  IsNumber n = n < length ids + 2

  one : (a b : ℕ) → IsNumber a → IsNumber b → place_of ids a ≡ place_of ids b → a ≡ b
  one = one_number ids (each_once R m ready ids list)

  -- each form leads to types that are there
  linked : (T : Tables) → Compiles R m ids T → (n : ℕ) → IsLinked (place_of ids) IsNumber one (types_of T n)
  linked T made n = record { slots = slots; code = code }
    where
      slots : (k : ℕ) (s : Slot ℕ) → slice_get (form_slots (types_of T n)) k ≡ Some s → IsNumber s.target
      slots k s at = (let below = tables_linked R m ready ids list T made n k s at in let count = type_count R m ids T made in omega (arith, below, count))

      code : (c : ℕ) (number : Simple) → types_of T n ≡ Money c number → IsNumber c
      code c number is =
          let simple = tables_codes R m ready ids list T made n c number is in
          let there : types_of T c ≡ form.Simple simple.0 = simple.1 in
          elim (cases_lt c (length T.types)) [
            | inl below ↦ (let count = type_count R m ids T made in omega (arith, below, count))
            | inr past ↦ (let none : types_of T c ≡ form.Missing = ap form_or_missing (slice_get_past T.types c past) in absurd cc)
          ]

  one_list : (T U : Tables) → Compiles R m ids T → Compiles R m ids U → T ≡ U
  one_list T U t u =
      let names : T.id ≡ U.id = t.id ∙ sym u.id in
      let forms : (n : ℕ) → types_of T n ≡ types_of U n =
      λ n. one_form (place_of ids) IsNumber one (types_of T n) (types_of U n) (linked T t n) (linked U u n) (t.forms n ∙ sym (u.forms n)) in
      let types : T.types ≡ U.types = one_types T.types U.types (t.words ∙ sym u.words) (t.names ∙ sym u.names) forms in
      λ i. record { id = names i; types = types i }

pub one_model : OneModel
one_model R m ids others T U ready list made more also =
    let same : ids ≡ others = one_ranked (λ id. rank_of R (entry id)) ids others list.ordered more.ordered
    (λ id inside. (more.reached id).1 ((list.reached id).0 inside)) (λ id inside. (list.reached id).1 ((more.reached id).0 inside)) in
    one_list R m ready ids list T U made (subst (λ x. Compiles R m x U) (sym same) also)
