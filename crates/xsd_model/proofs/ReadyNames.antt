-- The names that a schema gives the types of a message that breaks no rule: each once, and none is empty.
use Rattle.std.proofs.Common.{◌≡◌, ◌⊎◌, ℕ, zero, suc, ◌<◌, false, inl, inr, List, [], ◌∷◌, ◌++◌, length, map, flat_map, get_or, Option, Some, None, refl, sym, ap, ap₂, subst, ◌∙◌, arith, length-append}
use Rattle.std.specs.Prelude.{slice_get, codes, Contains}
use Rattle.std.specs.List.{AllByRecursion, IsDistinct}
use Rattle.std.specs.Str.{bytes_eq}
use Rattle.std.proofs.lemmas.List.{map-append}
use Rattle.std.proofs.lemmas.Option.{same_Some, slice_get_within, get_or_from_slice_get}
use Rattle.lexical_core.proofs.Lists.{only_one}
use Rattle.facets.specs.declared.simple.Simple.{Simple}
use Rattle.repo_objects.specs.declared.objects.Kinds.{Kinds}
use Rattle.repo_objects.specs.declared.objects.Kinds.TheVariants as kinds
use Rattle.repo_objects.specs.declared.objects.MessageDef.{MessageDef}
use Rattle.repo_objects.specs.declared.objects.Object.{Object}
use Rattle.repo_objects.specs.declared.objects.ObjectKind.{ObjectKind}
use Rattle.repo_objects.specs.declared.objects.ObjectKind.TheVariants as object
use Rattle.repo_objects.specs.Repository.{Contents}
use Rattle.reference_check.specs.Forms.{Form, form_to}
use Rattle.reference_check.specs.Forms as form
use Rattle.reference_check.specs.Graph.{Place, document, message, entry, nowhere, find_entry, find_message, simple_form, object_form, entry_form, message_form, document_form}
use Rattle.reference_check.specs.Names.{is_profile_name}
use Rattle.reference_check.specs.Reach.{Reaches, itself, kind_currency, currency_or_none, rank_of}
use Rattle.reference_check.specs.Rules.{BadName, NameTwice, with_currency, object_names, message_names, schema_names}
use Rattle.message_model.specs.SimpleTypes.{facets_of}
use Rattle.message_model.specs.Ready.{IsReady, OnObjects}
use Rattle.message_model.specs.Tables.{Tables, TypeEntry, form_or_missing}
use Rattle.message_model.specs.Compiled.{IsReachedList, types, places_of, place_or_nowhere, place_name, object_name, message_name}
use Rattle.message_model.proofs.Compilable.{object_there, at_contains}
use Rattle.xsd_model.specs.declared.schema.SchemaType.{SchemaType}
use Rattle.xsd_model.specs.SchemaOf.{names, schema_name_of, base_name, types_by, types_of_entry}
use Rattle.xsd_model.proofs.DistinctNames.{distinct_none, distinct_one, distinct_two, all_from, in_some, distinct_flat}
use Rattle.xsd_model.proofs.ReadyFacets.{message_found}
use Rattle.xsd_model.proofs.Sequences.{slice_get-back}

-- the names that a schema gives a type of this name and form
abbrev pub names_by : {P : Type 0} → List ℕ → Form P Simple → List (List ℕ)
names_by own (form.Money code number) = base_name own ∷ (own ∷ [])
names_by own form.LeftOut = []
names_by own form.Missing = []
names_by own other = own ∷ []

typed_names : (name : ℕ → List ℕ) (own : List ℕ) (F : Form ℕ Simple) → names (types_by name own F) ≡ names_by own F
typed_names name own (form.Sequence slots) = refl
typed_names name own (form.Choice slots) = refl
typed_names name own (form.Simple simple) = refl
typed_names name own (form.Money code number) = refl
typed_names name own form.Envelope = refl
typed_names name own form.LeftOut = refl
typed_names name own form.Missing = refl

names_to : {P Q : Type 0} (h : P → Q) (own : List ℕ) (F : Form P Simple) → names_by own F ≡ names_by own (form_to h (λ x. x) F)
names_to h own (form.Sequence slots) = refl
names_to h own (form.Choice slots) = refl
names_to h own (form.Simple simple) = refl
names_to h own (form.Money code number) = refl
names_to h own form.Envelope = refl
names_to h own form.LeftOut = refl
names_to h own form.Missing = refl

-- an amount's number has another name than the amount
base_apart : (own : List ℕ) → base_name own ≡ own → ⊥
base_apart own e = (let long = length-append own (codes "_SimpleType") in let same = ap length e in omega (arith, long, same))

distinct_by : {P : Type 0} (own : List ℕ) (F : Form P Simple) → IsDistinct bytes_eq (names_by own F)
distinct_by own (form.Sequence slots) = distinct_one own
distinct_by own (form.Choice slots) = distinct_one own
distinct_by own (form.Simple simple) = distinct_one own
distinct_by own (form.Money code number) = distinct_two (base_name own) own (base_apart own)
distinct_by own form.Envelope = distinct_one own
distinct_by own form.LeftOut = distinct_none
distinct_by own form.Missing = distinct_none

two_of : (a b name : List ℕ) → Contains (a ∷ (b ∷ [])) name → (a ≡ name) ⊎ (b ≡ name)
two_of a b name (zero, below, e) = inl e
two_of a b name (suc zero, below, e) = inr e
two_of a b name (suc (suc k), below, e) = absurd (omega (arith, below))

none_of : {T : Type 0} (name : List ℕ) → Contains [] name → T
none_of name (k, below, e) = absurd (omega (arith, below))

-- none of the names is empty, where the type's own is not
some_by : {P : Type 0} (own : List ℕ) (F : Form P Simple) (name : List ℕ) → 0 < length own → Contains (names_by own F) name → 0 < length name
some_by own (form.Sequence slots) name some has = subst (λ x. 0 < length x) (only_one own name has) some
some_by own (form.Choice slots) name some has = subst (λ x. 0 < length x) (only_one own name has) some
some_by own (form.Simple simple) name some has = subst (λ x. 0 < length x) (only_one own name has) some
some_by own (form.Money code number) name some has = elim (two_of (base_name own) own name has) [
  | inl e ↦ (let long = length-append own (codes "_SimpleType") in let same = ap length e in omega (arith, some, long, same))
  | inr e ↦ subst (λ x. 0 < length x) e some
]
some_by own form.Envelope name some has = subst (λ x. 0 < length x) (only_one own name has) some
some_by own form.LeftOut name some has = none_of name has
some_by own form.Missing name some has = none_of name has

module _ (R : Contents) (m : List ℕ) where
  -- the names that a schema gives the type of a place
  abbrev pub place_names : Place → List (List ℕ)
  place_names p = names_by (place_name R m p) (types R m p)

  pub names_listed : (T : Tables) (h : ℕ → Place) (ts : List TypeEntry) (ps : List Place) → map (λ (t : TypeEntry). t.name) ts ≡ map (place_name R m) ps
      → ((n : ℕ) → form_to h (λ x. x) (form_or_missing (slice_get ts n)) ≡ types R m (place_or_nowhere (slice_get ps n))) → names (flat_map (types_of_entry T) ts) ≡ flat_map place_names ps
  names_listed T h [] [] e f = refl
  names_listed T h [] (p ∷ ps) e f = absurd cc
  names_listed T h (t ∷ ts) [] e f = absurd cc
  names_listed T h (t ∷ ts) (p ∷ ps) e f =
      let own : t.name ≡ place_name R m p = cc in
      let rest : map (λ (x : TypeEntry). x.name) ts ≡ map (place_name R m) ps = cc in
      let here : names (types_of_entry T t) ≡ place_names p =
      typed_names (schema_name_of T) t.name t.form ∙ (names_to h t.name t.form ∙ (ap (λ n. names_by n (form_to h (λ x. x) t.form)) own ∙ ap (λ (F : Form Place Simple). names_by (place_name R m p) F) (f 0))) in
      map-append (λ (x : SchemaType). x.name) (types_of_entry T t) (flat_map (types_of_entry T) ts)
      ∙ ap₂ (λ (xs ys : List (List ℕ)). xs ++ ys) here (names_listed T h ts ps rest (λ n. f (suc n)))

  -- ---- what the rules say of the names

  amount_in : (o : Object) (c : Option (List ℕ)) (name : List ℕ) → Contains (names_by o.name (form_to (λ q. q) (facets_of R) (simple_form R o kinds.Amount c))) name → Contains (with_currency o.name c) name
  amount_in o None name has = has
  amount_in o (Some c) name has = elim (two_of (base_name o.name) o.name name has) [
    | inl e ↦ (1, omega arith, e)
    | inr e ↦ (0, omega arith, e)
  ]

  simple_in : (o : Object) (k : Kinds) (name : List ℕ) → Contains (names_by o.name (form_to (λ q. q) (facets_of R) (simple_form R o k o.currency))) name
      → Contains (with_currency o.name (kind_currency (object.Simple k) o.currency)) name
  simple_in o kinds.Amount name has = amount_in o o.currency name has
  simple_in o _ name has = has

  object_in : (o : Object) (k : ObjectKind) (name : List ℕ) → Contains (names_by o.name (form_to (λ q. q) (facets_of R) (object_form R o k))) name
      → Contains (with_currency o.name (kind_currency k o.currency)) name
  object_in o (object.Simple k) name has = simple_in o k name has
  object_in o object.Component name has = has
  object_in o object.Choice name has = has
  object_in o object.External name has = has
  object_in o object.Other name has = none_of name has

  entry_in : (o : Option Object) (name : List ℕ) → Contains (names_by (object_name o) (form_to (λ q. q) (facets_of R) (entry_form R o))) name → Contains (object_names o (currency_or_none o)) name
  entry_in None name has = none_of name has
  entry_in (Some o) name has = object_in o o.kind name has

  message_in : (d : Option MessageDef) (name : List ℕ) → Contains (names_by (message_name d) (form_to (λ q. q) (facets_of R) (message_form d))) name → Contains (message_names d) name
  message_in None name has = none_of name has
  message_in (Some d) name has = has

  document_in : (d : Option MessageDef) (name : List ℕ) → Contains (names_by (codes "Document") (form_to (λ q. q) (facets_of R) (document_form d))) name → codes "Document" ≡ name
  document_in None name has = none_of name has
  document_in (Some d) name has = only_one (codes "Document") name has

  -- they are those that the rules speak of
  names_in : (p : Place) (name : List ℕ) → (p ≡ document → ⊥) → Contains (place_names p) name → Contains (schema_names R m p) name
  names_in document name other has = absurd (other refl)
  names_in message name other has = message_in (find_message m R.messages) name has
  names_in (entry id) name other has = entry_in (find_entry id R.objects) name has
  names_in nowhere name other has = none_of name has

  module _ (ready : IsReady R m) where
    -- two places have no name in common
    pub apart : (p q : Place) (name : List ℕ) → Reaches R m q → (p ≡ document) ⊎ Reaches R m p → (p ≡ q → ⊥) → Contains (place_names p) name → Contains (place_names q) name → ⊥
    apart p q name reach (inl e) differ has other =
        let first : codes "Document" ≡ name = document_in (find_message m R.messages) name (subst (λ x. Contains (place_names x) name) e has) in
        let there = names_in q name (λ is. differ (e ∙ sym is)) other in
        ready (OnObjects NameTwice) q reach (name, there, inl (sym first))
    apart p q name reach (inr reached) differ has other =
        let not_first : (x : Place) → Reaches R m x → x ≡ document → ⊥ = λ x h is. elim (subst (λ y. Reaches R m y) is h) [ ] in
        let here = names_in p name (not_first p reached) has in
        let there = names_in q name (not_first q reach) other in
        ready (OnObjects NameTwice) q reach (name, there, inr (p, reached, differ, here))

    -- ---- no name is empty

    some_name : (name : List ℕ) → (is_profile_name name ≡ false → ⊥) → 0 < length name
    some_name [] good = absurd (good refl)
    some_name (b ∷ bs) good = omega arith

    message_some : 0 < length (place_name R m message)
    message_some =
        let d = message_found R m ready in
        let good : is_profile_name d.0.name ≡ false → ⊥ = λ bad. ready (OnObjects BadName) message itself (rw d.1 (d.0.name, (0, omega arith, refl), bad)) in
        subst (λ o. 0 < length (message_name o)) (sym d.1) (some_name d.0.name good)

    entry_some : (id : List ℕ) → Reaches R m (entry id) → 0 < length (place_name R m (entry id))
    entry_some id reach =
        let there = object_there R m ready id reach in
        let good : is_profile_name there.0.name ≡ false → ⊥ = λ bad. ready (OnObjects BadName) (entry id) reach (rw there.1 (there.0.name, (0, omega arith, refl), bad)) in
        subst (λ o. 0 < length (object_name o)) (sym there.1) (some_name there.0.name good)

    place_some : (p : Place) → (p ≡ document) ⊎ Reaches R m p → 0 < length (place_name R m p)
    place_some document at = omega arith
    place_some message at = message_some
    place_some (entry id) (inl e) = absurd cc
    place_some (entry id) (inr reach) = entry_some id reach
    place_some nowhere (inl e) = absurd cc
    place_some nowhere (inr reach) = absurd (elim reach [ ])

    -- ---- of all places

    module _ (ids : List (List ℕ)) (list : IsReachedList R m ids) where
      pub listed : (n : ℕ) (p : Place) → slice_get (places_of ids) n ≡ Some p → (p ≡ document) ⊎ Reaches R m p
      listed zero p e = inl (sym (same_Some document p e))
      listed (suc zero) p e = inr (subst (λ q. Reaches R m q) (same_Some message p e) itself)
      listed (suc (suc i)) p e = (let r = slice_get-back entry ids i p e in inr (subst (λ q. Reaches R m q) r.2 ((list.reached r.0).0 (at_contains ids r.0 i r.1))))

      ids_differ : (i j : ℕ) (a b : List ℕ) → i < j → slice_get ids i ≡ Some a → slice_get ids j ≡ Some b → a ≡ b → ⊥
      ids_differ i j a b lt ga gb same =
          let up = list.ordered i j [] lt (slice_get_within ids j b gb) in
          let ia = get_or_from_slice_get ids i a [] ga in
          let ib = get_or_from_slice_get ids j b [] gb in
          let alike : rank_of R (entry (get_or ids i [])) ≡ rank_of R (entry (get_or ids j [])) = ap (λ x. rank_of R (entry x)) (ia ∙ (same ∙ sym ib)) in
          omega (arith, up, alike)

      places_differ : (a b : ℕ) (p q : Place) → a < b → slice_get (places_of ids) a ≡ Some p → slice_get (places_of ids) b ≡ Some q → p ≡ q → ⊥
      places_differ a zero p q lt g h same = absurd (omega (arith, lt))
      places_differ zero (suc zero) p q lt g h same = cc
      places_differ (suc a) (suc zero) p q lt g h same = absurd (omega (arith, lt))
      places_differ zero (suc (suc j)) p q lt g h same = (let r = slice_get-back entry ids j q h in let is : entry r.0 ≡ q = r.2 in cc)
      places_differ (suc zero) (suc (suc j)) p q lt g h same = (let r = slice_get-back entry ids j q h in let is : entry r.0 ≡ q = r.2 in cc)
      places_differ (suc (suc i)) (suc (suc j)) p q lt g h same =
          let r = slice_get-back entry ids i p g in
          let s = slice_get-back entry ids j q h in
          let is : entry r.0 ≡ entry s.0 = r.2 ∙ (same ∙ sym s.2) in
          let alike : r.0 ≡ s.0 = cc in
          ids_differ i j r.0 s.0 (omega (arith, lt)) r.1 s.1 alike

      pub names_distinct : IsDistinct bytes_eq (flat_map place_names (places_of ids))
      names_distinct = distinct_flat place_names (places_of ids) (λ p. distinct_by (place_name R m p) (types R m p)) later
        where
          reached : (b : ℕ) (q : Place) → 0 < b → slice_get (places_of ids) b ≡ Some q → Reaches R m q
          reached zero q lt h = absurd (omega (arith, lt))
          reached (suc b) q lt h = elim (listed (suc b) q h) [ inl e ↦ absurd (places_differ 0 (suc b) document q (omega arith) refl h (sym e)) | inr reach ↦ reach ]

          later : (a b : ℕ) (p q : Place) (name : List ℕ) → a < b → slice_get (places_of ids) a ≡ Some p → slice_get (places_of ids) b ≡ Some q
              → Contains (place_names p) name → Contains (place_names q) name → ⊥
          later a b p q name lt g h has other = apart p q name (reached b q (omega (arith, lt)) h) (listed a p g) (places_differ a b p q lt g h) has other

      pub names_some : AllByRecursion (λ name. 0 < length name) (flat_map place_names (places_of ids))
      names_some = all_from (λ name. 0 < length name) (flat_map place_names (places_of ids)) each
        where
          each : (name : List ℕ) → Contains (flat_map place_names (places_of ids)) name → 0 < length name
          each name has = (let r = in_some place_names (places_of ids) name has in some_by (place_name R m r.1) (types R m r.1) name (place_some r.1 (listed r.0 r.1 r.2)) r.3)
