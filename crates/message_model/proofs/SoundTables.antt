-- The tables of a message that breaks no rule are sound.
use Rattle.std.proofs.Common.{◌≡◌, ℕ, zero, suc, ◌+◌, ◌<◌, ◌≤◌, List, [], ◌∷◌, length, map, get_or, Option, Some, None, refl, sym, ap, subst, ◌∙◌, arith, inl, inr}
use Rattle.std.specs.Prelude.{slice_get, Contains}
use Rattle.std.specs.Option.{option_map}
use Rattle.std.proofs.lemmas.Bool.{cases_lt}
use Rattle.std.proofs.lemmas.List.{length-map}
use Rattle.std.proofs.lemmas.Option.{slice_get-map, slice_get_within, slice_get_past, get_or_from_slice_get}
use Rattle.facets.specs.declared.simple.Simple.{Simple}
use Rattle.repo_objects.specs.Repository.{DictionaryEntry, Contents, IsRepository}
use Rattle.reference_check.specs.declared.reached.Reach.{Reach}
use Rattle.reference_check.specs.Reached.{HasReach}
use Rattle.reference_check.specs.Graph.{Place, message, entry, find_entry}
use Rattle.reference_check.specs.Reach.{itself, rank_of}
use Rattle.reference_check.specs.Rules.{TooMany}
use Rattle.reference_check.specs.Forms.{Slot, Form, Money, Missing, form_slots, form_to, slot_to, text_type}
use Rattle.reference_check.specs.Forms as form
use Rattle.reference_check.proofs.RenamedForms.{form_slot_to}
use Rattle.message_model.specs.Tables.{Tables, TypeEntry, types_of, form_or_missing}
use Rattle.message_model.specs.Views.{tables_from, type_entry}
use Rattle.message_model.specs.declared.model.TypeInfo.{TypeInfo}
use Rattle.message_model.specs.Sound.{IsSoundForm, AreSound, HaveCodes, HaveSortedCodes, HasRoot, AreLinked}
use Rattle.message_model.specs.Ready.{IsReady, OnObjects}
use Rattle.message_model.specs.Laws.{CompiledAreSound}
use Rattle.message_model.specs.Compiled.{IsReachedList, Compiles, types, places_of, place_of, place_or_nowhere, place_word, place_name}
use Rattle.message_model.specs.inner.Numbers.{AreTypesOf, ids_at}
use Rattle.message_model.proofs.Compilable.{object_there, at_contains, reached_list}
use Rattle.message_model.proofs.SoundElements.{sound_from}
use Rattle.message_model.proofs.SortedCodes.{types_sorted}
use Rattle.message_model.proofs.SoundTypes.{IsTypePlace, types_sound, types_codes, types_root, types_linked}

-- ---- the tables, type by type

module _ (R : Contents) (m places : List ℕ) where
  abbrev h : ℕ → Place
  h = place_of (ids_at R.objects places)

  forms_are : (ps : List Place) (ts : List TypeEntry) → AreTypesOf R m places ps ts
      → (n : ℕ) → form_to h (λ x. x) (form_or_missing (slice_get ts n)) ≡ types R m (place_or_nowhere (slice_get ps n))
  forms_are [] [] are n = refl
  forms_are [] (t ∷ ts) are n = absurd are
  forms_are (p ∷ ps) [] are n = absurd are
  forms_are (p ∷ ps) (t ∷ ts) are zero = are.0.form
  forms_are (p ∷ ps) (t ∷ ts) are (suc n) = forms_are ps ts are.1 n

  words_are : (ps : List Place) (ts : List TypeEntry) → AreTypesOf R m places ps ts → map (λ (t : TypeEntry). t.word) ts ≡ map (place_word R) ps
  words_are [] [] are = refl
  words_are [] (t ∷ ts) are = absurd are
  words_are (p ∷ ps) [] are = absurd are
  words_are (p ∷ ps) (t ∷ ts) are = (let e = are.0.word in let rest = words_are ps ts are.1 in cc)

  names_are : (ps : List Place) (ts : List TypeEntry) → AreTypesOf R m places ps ts → map (λ (t : TypeEntry). t.name) ts ≡ map (place_name R m) ps
  names_are [] [] are = refl
  names_are [] (t ∷ ts) are = absurd are
  names_are (p ∷ ps) [] are = absurd are
  names_are (p ∷ ps) (t ∷ ts) are = (let e = are.0.name in let rest = names_are ps ts are.1 in cc)

  pub compiles : (T : Tables) → T.id ≡ m → AreTypesOf R m places (places_of (ids_at R.objects places)) T.types → Compiles R m (ids_at R.objects places) T
  compiles T id are = record {
    id = id;
    forms = forms_are (places_of (ids_at R.objects places)) T.types are;
    words = words_are (places_of (ids_at R.objects places)) T.types are;
    names = names_are (places_of (ids_at R.objects places)) T.types are;
  }

-- ---- what follows

-- as many types as places
pub type_count : (R : Contents) (m : List ℕ) (ids : List (List ℕ)) (T : Tables) → Compiles R m ids T → length T.types ≡ length ids + 2
type_count R m ids T made =
    let words = ap length made.words in
    let types = length-map T.types (λ (t : TypeEntry). t.word) in
    let places = length-map (places_of ids) (place_word R) in
    let entries = length-map ids entry in
    omega (arith, words, types, places, entries)

simple_back : {P : Type 0} (h : ℕ → P) (f : Form ℕ Simple) (s : Simple) → form_to h (λ x. x) f ≡ form.Simple s → f ≡ form.Simple s
simple_back h (form.Simple t) s e = (let same : t ≡ s = cc in ap form.Simple same)
simple_back h (form.Sequence slots) s e = absurd cc
simple_back h (form.Choice slots) s e = absurd cc
simple_back h (form.Money c t) s e = absurd cc
simple_back h form.Envelope s e = absurd cc
simple_back h form.LeftOut s e = absurd cc
simple_back h form.Missing s e = absurd cc

sequence_back : {P : Type 0} (h : ℕ → P) (f : Form ℕ Simple) (slots : List (Slot P)) → form_to h (λ x. x) f ≡ form.Sequence slots → (given : List (Slot ℕ)) × (f ≡ form.Sequence given)
sequence_back h (form.Sequence given) slots e = (given, refl)
sequence_back h (form.Simple t) slots e = absurd cc
sequence_back h (form.Choice given) slots e = absurd cc
sequence_back h (form.Money c t) slots e = absurd cc
sequence_back h form.Envelope slots e = absurd cc
sequence_back h form.LeftOut slots e = absurd cc
sequence_back h form.Missing slots e = absurd cc

text_to : {P : Type 0} (h : ℕ → P) (f : Form ℕ Simple) → text_type (form_to h (λ x. x) f) ≡ text_type f
text_to h (form.Sequence slots) = refl
text_to h (form.Choice slots) = refl
text_to h (form.Simple s) = refl
text_to h (form.Money c s) = refl
text_to h form.Envelope = refl
text_to h form.LeftOut = refl
text_to h form.Missing = refl

module _ (R : Contents) (m : List ℕ) (ready : IsReady R m) (ids : List (List ℕ)) (list : IsReachedList R m ids) where
  pub type_place : (n : ℕ) → IsTypePlace R m ready (place_of ids n)
  type_place zero = tt
  type_place (suc zero) = tt
  type_place (suc (suc i)) = by (slice_get ids i) refl
    where
      by : (o : Option (List ℕ)) → slice_get ids i ≡ o → IsTypePlace R m ready (place_or_nowhere (slice_get (map entry ids) i))
      by None h = subst (λ o. IsTypePlace R m ready (place_or_nowhere o)) (sym (slice_get-map entry ids i ∙ ap (option_map entry) h)) tt
      by (Some id) h =
          subst (λ o. IsTypePlace R m ready (place_or_nowhere o)) (sym (slice_get-map entry ids i ∙ ap (option_map entry) h))
          ((list.reached id).0 (at_contains ids id i h))

  module _ (T : Tables) (made : Compiles R m ids T) where
    pub tables_sound : AreSound (types_of T)
    tables_sound n = sound_from (place_of ids) (types_of T n) (subst (λ (f : Form Place Simple). IsSoundForm f) (sym (made.forms n)) (types_sound R m ready (place_of ids n) (type_place n)))

    pub tables_codes : HaveCodes (types_of T)
    tables_codes n code number is =
        let there : types R m (place_of ids n) ≡ Money (place_of ids code) number = sym (made.forms n) ∙ ap (form_to (place_of ids) (λ x. x)) is in
        let c = types_codes R m ready (place_of ids n) (place_of ids code) number (type_place n) there in
        (c.0, simple_back (place_of ids) (types_of T code) c.0 (made.forms code ∙ c.1))

    pub tables_sorted : HaveSortedCodes (types_of T)
    tables_sorted n simple is =
        types_sorted R m (place_of ids n) simple (ap text_type (sym (made.forms n)) ∙ (text_to (place_of ids) (types_of T n) ∙ is))

    pub tables_root : HasRoot (types_of T)
    tables_root = (let root = types_root R m ready in sequence_back (place_of ids) (types_of T 0) root.0 (made.forms 0 ∙ root.1))

    pub tables_linked : AreLinked T
    tables_linked n k s at =
        let slot = form_slot_to (place_of ids) (λ x. x) (types_of T n) k s at in
        let there : slice_get (form_slots (types R m (place_of ids n))) k ≡ Some (slot_to (place_of ids) s) =
        subst (λ (f : Form Place Simple). slice_get (form_slots f) k ≡ Some (slot_to (place_of ids) s)) (made.forms n) slot
        in
        elim (cases_lt s.target (length T.types)) [
          | inl below ↦ below
          | inr past ↦
              let none : types_of T s.target ≡ Missing = ap form_or_missing (slice_get_past T.types s.target past) in
              absurd (types_linked R m ready (place_of ids n) (type_place n) k (slot_to (place_of ids) s) there
              (sym (made.forms s.target) ∙ ap (form_to (place_of ids) (λ x. x)) none))
        ]

  -- how many
  pub each_once : (i j : ℕ) (a : List ℕ) → i < j → slice_get ids i ≡ Some a → slice_get ids j ≡ Some a → ⊥
  each_once i j a lt ga gb =
      let up = list.ordered i j [] lt (slice_get_within ids j a gb) in
      let ia = get_or_from_slice_get ids i a [] ga in
      let ib = get_or_from_slice_get ids j a [] gb in
      let both : rank_of R (entry a) < rank_of R (entry a) = subst (λ x. rank_of R (entry x) < rank_of R (entry a)) ia (subst (λ x. rank_of R (entry (get_or ids i [])) < rank_of R (entry x)) ib up) in
      omega (arith, both)

  pub few_ids : length ids ≤ 65536
  few_ids =
      elim (cases_lt 65536 (length ids)) [
        | inl above ↦ absurd (ready (OnObjects TooMany) message itself (inr (inr (refl, ids, (each_once, λ id inside. ((list.reached id).0 inside, there id inside)), above))))
        | inr below ↦ below
      ]
    where
      there : (id : List ℕ) → Contains ids id → find_entry id R.objects ≡ None → ⊥
      there id inside none = (let found = object_there R m ready id ((list.reached id).0 inside) in let some = found.1 in cc)

  pub tables_few : (T : Tables) → Compiles R m ids T → length T.types ≤ 65538
  tables_few T made = (let count = type_count R m ids T made in let few = few_ids in omega (arith, count, few))

long_ids : (es : List DictionaryEntry) (places : List ℕ) → length (ids_at es places) ≡ length places
long_ids es [] = refl
long_ids es (k ∷ places) = ap suc (long_ids es places)

-- of places
pub few_places : (R : Contents) (m : List ℕ) (ready : IsReady R m) (whole : IsRepository R) (r : Reach) → HasReach R m r → length r.objects ≤ 65536
few_places R m ready whole r has =
    let few = few_ids R m ready (ids_at R.objects r.objects) (reached_list R m ready whole r has) in
    omega (arith, few, long_ids R.objects r.objects)

-- of the types that are kept
pub kept_few : (R : Contents) (m : List ℕ) (ready : IsReady R m) (ids : List (List ℕ)) (list : IsReachedList R m ids) (ts : List TypeInfo) → Compiles R m ids (tables_from m (map type_entry ts))
    → length ts ≤ 65538
kept_few R m ready ids list ts made = (let few = tables_few R m ready ids list (tables_from m (map type_entry ts)) made in omega (arith, few, long ts))
  where
    long : (ts : List TypeInfo) → length (map type_entry ts) ≡ length ts
    long [] = refl
    long (t ∷ ts) = ap suc (long ts)

pub compiled_are_sound : CompiledAreSound
compiled_are_sound R m ids T ready list made =
    (tables_sound R m ready ids list T made, tables_codes R m ready ids list T made, tables_sorted R m ready ids list T made, tables_root R m ready ids list T made)
