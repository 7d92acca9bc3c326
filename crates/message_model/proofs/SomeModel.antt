-- A message that breaks no rule has tables.
use Rattle.std.proofs.Common.{◌≡◌, ℕ, zero, suc, ◌<◌, Bool, true, false, List, [], ◌∷◌, ◌++◌, length, map, get_or, Option, Some, None, refl, sym, ap, subst, ◌∙◌, arith, inl, inr}
use Rattle.std.specs.Prelude.{slice_get, Contains, AllPairs, if◌then◌else◌}
use Rattle.std.specs.Option.{option_map}
use Rattle.std.specs.Str.{bytes_eq}
use Rattle.std.proofs.lemmas.Bool.{cases_lt}
use Rattle.std.proofs.lemmas.List.{get_or_default}
use Rattle.std.proofs.lemmas.List.Elements.{Contains-append_left, Contains-append_right, Contains-append_cases}
use Rattle.std.proofs.lemmas.List.Quantifiers.{all_pairs_push}
use Rattle.std.proofs.lemmas.Option.{slice_get-map, slice_get_within}
use Rattle.std.proofs.lemmas.Slice.Eq.{bytes_eq-Decides}
use Rattle.lexical_core.proofs.Lists.{only_one}
use Rattle.facets.specs.declared.simple.Simple.{Simple}
use Rattle.repo_objects.specs.Repository.{Contents}
use Rattle.reference_check.specs.Forms.{Slot, Form, Money, form_slots, form_to, slot_to}
use Rattle.reference_check.specs.Forms as form
use Rattle.reference_check.specs.Graph.{Place, document, message, entry, nowhere}
use Rattle.reference_check.specs.Reach.{Reaches, rank_of}
use Rattle.reference_check.proofs.Lookups.{IsFound, find_place}
use Rattle.message_model.specs.Compiled.{Compiles, IsReachedList, types, places_of, place_of, place_or_nowhere, place_word, place_name}
use Rattle.message_model.specs.Laws.{SomeModel}
use Rattle.message_model.specs.Ready.{IsReady}
use Rattle.message_model.specs.Tables.{Tables, TypeEntry, form_or_missing}
use Rattle.message_model.proofs.Compilable.{object_there}
use Rattle.message_model.proofs.Places.{found_once}
use Rattle.message_model.proofs.SoundTables.{type_place}
use Rattle.message_model.proofs.SoundTypes.{IsTypePlace, IsTarget, types_lead, code_leads}

-- ---- the objects that are reached, in file order

module _ (R : Contents) (m : List ℕ) (ready : IsReady R m) where
  found : (id : List ℕ) → Reaches R m (entry id) → IsFound id R.objects
  found id reach = elim (find_place id R.objects) [
    | inl a ↦ (let o = object_there R m ready id reach in let some = o.1 in let none = a.none in absurd cc)
    | inr x ↦ x
  ]

  below_all : (id : List ℕ) → Reaches R m (entry id) → rank_of R (entry id) < length R.objects
  below_all id reach =
      let x = found id reach in
      let rank : rank_of R (entry id) ≡ x.place = x.rank in
      let within = slice_get_within R.objects x.place x.there x.at in
      omega (arith, rank, within)

  one_id : (id other : List ℕ) → Reaches R m (entry id) → Reaches R m (entry other) → rank_of R (entry id) ≡ rank_of R (entry other) → id ≡ other
  one_id id other reach also same = (let x = found id reach in let y = found other also in found_once R.objects id other x y (sym x.rank ∙ (same ∙ y.rank)))

  -- these are the ids that are reached, of a rank below this one
  record IsListBelow (n : ℕ) (ids : List (List ℕ)) : Type 0 where
    ordered : AllPairs (λ a b. rank_of R (entry a) < rank_of R (entry b)) ids
    reached : (id : List ℕ) → Contains ids id → Reaches R m (entry id)
    below : (id : List ℕ) → Contains ids id → rank_of R (entry id) < n
    all : (id : List ℕ) → Reaches R m (entry id) → rank_of R (entry id) < n → Contains ids id

  none_below : IsListBelow 0 []
  none_below = record {
    ordered = λ i j d lt below. absurd (omega (arith, below));
    reached = λ id (k, lt, is). absurd (omega (arith, lt));
    below = λ id (k, lt, is). absurd (omega (arith, lt));
    all = λ id reach lt. absurd (omega (arith, lt));
  }

  none_more : (n : ℕ) (ids : List (List ℕ)) → IsListBelow n ids → ((id : List ℕ) → Reaches R m (entry id) → rank_of R (entry id) ≡ n → ⊥) → IsListBelow (suc n) ids
  none_more n ids list none = record {
    ordered = list.ordered;
    reached = list.reached;
    below = λ id inside. (let lt = list.below id inside in omega (arith, lt));
    all = all;
  }
    where
      all : (id : List ℕ) → Reaches R m (entry id) → rank_of R (entry id) < suc n → Contains ids id
      all id reach lt = elim (cases_lt (rank_of R (entry id)) n) [
        | inl before ↦ list.all id reach before
        | inr here ↦ absurd (none id reach (omega (arith, lt, here)))
      ]

  one_more : (n : ℕ) (ids : List (List ℕ)) (last : List ℕ) → IsListBelow n ids → Reaches R m (entry last) → rank_of R (entry last) ≡ n → IsListBelow (suc n) (ids ++ last ∷ [])
  one_more n ids last list reach at = record {
    ordered = all_pairs_push (λ a b. rank_of R (entry a) < rank_of R (entry b)) ids last list.ordered before;
    reached = λ id inside. elim (Contains-append_cases ids (last ∷ []) id inside) [
      | inl old ↦ list.reached id old
      | inr new ↦ subst (λ x. Reaches R m (entry x)) (only_one last id new) reach
    ];
    below = λ id inside. elim (Contains-append_cases ids (last ∷ []) id inside) [
      | inl old ↦ (let lt = list.below id old in omega (arith, lt))
      | inr new ↦ (let same = ap (λ x. rank_of R (entry x)) (only_one last id new) in omega (arith, same, at))
    ];
    all = all;
  }
    where
      before : (k : ℕ) (d : List ℕ) → k < length ids → rank_of R (entry (get_or ids k d)) < rank_of R (entry last)
      before k d lt = (let low = list.below (get_or ids k d) (k, lt, get_or_default ids k (get_or ids k d) d lt) in omega (arith, low, at))

      all : (id : List ℕ) → Reaches R m (entry id) → rank_of R (entry id) < suc n → Contains (ids ++ last ∷ []) id
      all id also lt = elim (cases_lt (rank_of R (entry id)) n) [
        | inl before ↦ Contains-append_left ids (last ∷ []) id (list.all id also before)
        | inr here ↦ Contains-append_right ids (last ∷ []) id (0, omega arith, one_id last id reach also (omega (arith, lt, here, at)))
      ]

  some_below : (n : ℕ) → ¬ (¬ ((ids : List (List ℕ)) × IsListBelow n ids))
  some_below zero lacks = lacks ([], none_below)
  some_below (suc n) lacks =
      some_below n (λ (ids, list). lacks (ids, none_more n ids list (λ id reach at. lacks (ids ++ id ∷ [], one_more n ids id list reach at))))

  some_list : ¬ (¬ ((ids : List (List ℕ)) × IsReachedList R m ids))
  some_list lacks = some_below (length R.objects) (λ (ids, list). lacks (
    ids,
    record {
      ordered = list.ordered;
      reached = λ id. (list.reached id, λ reach. list.all id reach (below_all id reach));
    },
  ))

-- ---- the numbers of types

-- where the id stands in the list
abbrev index_in : List ℕ → List (List ℕ) → ℕ
index_in id [] = 0
index_in id (x ∷ ids) = if bytes_eq x id then 0 else suc (index_in id ids)

not_first : (x : List ℕ) (ids : List (List ℕ)) (id : List ℕ) → bytes_eq x id ≡ false → Contains (x ∷ ids) id → Contains ids id
not_first x ids id miss (zero, lt, is) = (let hit : bytes_eq x id ≡ true = (bytes_eq-Decides x id).1 is in absurd cc)
not_first x ids id miss (suc k, lt, is) = (k, omega (arith, lt), is)

get_index : (ids : List (List ℕ)) (id : List ℕ) → Contains ids id → slice_get ids (index_in id ids) ≡ Some id
get_index [] id (k, lt, is) = absurd (omega (arith, lt))
get_index (x ∷ ids) id inside = by (bytes_eq x id) refl (λ later. get_index ids id later)
  where
    by : (b : Bool) → bytes_eq x id ≡ b → (Contains ids id → slice_get ids (index_in id ids) ≡ Some id) → slice_get (x ∷ ids) (index_in id (x ∷ ids)) ≡ Some id
    by true hit rest = rw hit (ap Some ((bytes_eq-Decides x id).0 hit))
    by false miss rest = rw miss (rest (not_first x ids id miss inside))

-- the number of the type of a place
abbrev number_of : List (List ℕ) → Place → ℕ
number_of ids document = 0
number_of ids message = 1
number_of ids (entry id) = suc (suc (index_in id ids))
number_of ids nowhere = suc (suc (length ids))

-- ---- forms there and back

module _ {P Q : Type 0} (h : P → Q) (g : Q → P) where
  same_slots : (slots : List (Slot P)) → ((k : ℕ) (s : Slot P) → slice_get slots k ≡ Some s → g (h s.target) ≡ s.target) → map (slot_to g) (map (slot_to h) slots) ≡ slots
  same_slots [] back = refl
  same_slots (s ∷ slots) back =
      let target : g (h s.target) ≡ s.target = back 0 s refl in
      let rest : map (slot_to g) (map (slot_to h) slots) ≡ slots = same_slots slots (λ k. back (suc k)) in
      λ i. record { tag = s.tag; min = s.min; max = s.max; target = target i } ∷ rest i

  same_form : (f : Form P Simple) → ((k : ℕ) (s : Slot P) → slice_get (form_slots f) k ≡ Some s → g (h s.target) ≡ s.target)
      → ((c : P) (number : Simple) → f ≡ Money c number → g (h c) ≡ c) → form_to g (λ x. x) (form_to h (λ x. x) f) ≡ f
  same_form (form.Sequence slots) back code = ap form.Sequence (same_slots slots back)
  same_form (form.Choice slots) back code = ap form.Choice (same_slots slots back)
  same_form (form.Simple x) back code = refl
  same_form (form.Money c x) back code = ap (λ q. form.Money q x) (code c x refl)
  same_form form.Envelope back code = refl
  same_form form.LeftOut back code = refl
  same_form form.Missing back code = refl

-- ---- the tables

module _ (R : Contents) (m : List ℕ) (ready : IsReady R m) (ids : List (List ℕ)) (list : IsReachedList R m ids) where
  back : (q : Place) → IsTarget R m ready q → place_of ids (number_of ids q) ≡ q
  back document at = absurd at
  back message at = refl
  back (entry id) at = ap place_or_nowhere (slice_get-map entry ids (index_in id ids) ∙ ap (option_map entry) (get_index ids id ((list.reached id).1 at)))
  back nowhere at = absurd at

  abbrev type_of : Place → TypeEntry
  type_of p = record { word = place_word R p; name = place_name R m p; form = form_to (number_of ids) (λ x. x) (types R m p) }

  abbrev tables : Tables
  tables = record { id = m; types = map type_of (places_of ids) }

  form_at : (o : Option Place) → IsTypePlace R m ready (place_or_nowhere o) → form_to (place_of ids) (λ x. x) (form_or_missing (option_map type_of o)) ≡ types R m (place_or_nowhere o)
  form_at None at = refl
  form_at (Some p) at =
      same_form (number_of ids) (place_of ids) (types R m p) (λ k s there. back s.target (types_lead R m ready p at k s there)) (λ c number is. back c (code_leads R m ready p c number at is))

  words_made : (ps : List Place) → map (λ (t : TypeEntry). t.word) (map type_of ps) ≡ map (place_word R) ps
  words_made [] = refl
  words_made (p ∷ ps) = ap (λ xs. place_word R p ∷ xs) (words_made ps)

  names_made : (ps : List Place) → map (λ (t : TypeEntry). t.name) (map type_of ps) ≡ map (place_name R m) ps
  names_made [] = refl
  names_made (p ∷ ps) = ap (λ xs. place_name R m p ∷ xs) (names_made ps)

  made : Compiles R m ids tables
  made = record {
    id = refl;
    forms = λ n. ap (λ o. form_to (place_of ids) (λ x. x) (form_or_missing o)) (slice_get-map type_of (places_of ids) n) ∙ form_at (slice_get (places_of ids) n) (type_place R m ready ids list n);
    words = words_made (places_of ids);
    names = names_made (places_of ids);
  }

pub some_model : SomeModel
some_model R m ready lacks = some_list R m ready (λ (ids, list). lacks (ids, tables R m ready ids list, list, made R m ready ids list))
