-- The names of a message that breaks no rule are names of XML.
use Rattle.std.proofs.Common.{◌≡◌, ◌<◌, ◌≤◌, inl, inr, ℕ, zero, suc, true, ◌==◌, ◌||◌, List, [], ◌∷◌, ◌++◌, map, Option, Some, None, refl, sym, ap, subst, ◌∙◌, arith}
use Rattle.std.specs.Prelude.{slice_get, Contains, encode_utf8_all}
use Rattle.std.specs.Int.{is_in_range}
use Rattle.std.specs.Char.{is_ascii_alphabetic, is_ascii_alphanumeric}
use Rattle.std.specs.List.{AllByRecursion, list_all}
use Rattle.std.specs.Option.{option_map}
use Rattle.std.proofs.lemmas.Bool.{cases_Bool, and_parts, or_cases}
use Rattle.std.proofs.lemmas.Bool.Decides.{nat_tests}
use Rattle.std.proofs.lemmas.List.Elements.{Contains-append_left, Contains-append_right}
use Rattle.std.proofs.lemmas.Option.{slice_get-map, same_Some}
use Rattle.std.proofs.lemmas.Str.{encode_ascii}
use Rattle.lexical_core.specs.Characters.{IsNameStart, IsNameChar}
use Rattle.data_types.proofs.VisibleTexts.{AreVisible, visible_xml}
use Rattle.facets.specs.declared.simple.Simple.{Simple}
use Rattle.markup.proofs.CharLemmas.{range_in}
use Rattle.fragments.specs.Plain.{IsPart}
use Rattle.repo_objects.specs.declared.objects.ElementDef.{ElementDef}
use Rattle.repo_objects.specs.declared.objects.MessageDef.{MessageDef}
use Rattle.repo_objects.specs.declared.objects.Object.{Object}
use Rattle.repo_objects.specs.declared.objects.Kinds.{Kinds}
use Rattle.repo_objects.specs.declared.objects.Kinds.TheVariants as kinds
use Rattle.repo_objects.specs.declared.objects.ObjectKind.{ObjectKind}
use Rattle.repo_objects.specs.declared.objects.ObjectKind.TheVariants as object
use Rattle.repo_objects.specs.Repository.{Contents}
use Rattle.repo_objects.specs.MessageId.{IsMessageId}
use Rattle.reference_check.specs.Names.{is_profile_name, is_name_first, is_name_byte}
use Rattle.reference_check.specs.Graph.{Place, document, message, entry, nowhere, find_entry, find_message, simple_form, object_form, entry_form, message_form, document_form}
use Rattle.reference_check.specs.Reach.{Reaches, itself, elements_of, elements_or_none, blocks_or_none, kind_elements}
use Rattle.reference_check.specs.Rules.{BadName, own_names}
use Rattle.reference_check.specs.Forms.{Slot, Form, form_slots, form_to, slot_to}
use Rattle.reference_check.specs.Forms as form
use Rattle.message_model.specs.SimpleTypes.{facets_of}
use Rattle.message_model.specs.Tables.{Tables, types_of, namespace_front, message_namespace, message_of}
use Rattle.message_model.specs.Ready.{IsReady, OnObjects}
use Rattle.message_model.specs.Compiled.{IsReachedList, Compiles, types, place_of}
use Rattle.message_model.proofs.Compilable.{object_there, at_contains}
use Rattle.message_model.proofs.SoundElements.{slots_by, slot_from}
use Rattle.message_model.proofs.SoundTypes.{IsTypePlace}
use Rattle.message_model.proofs.SoundTables.{type_place}
use Rattle.xml_writer.specs.SpellingLaw.{HasXmlNames, CompiledSpells}
use Rattle.xml_writer.proofs.MessageNames.{namespace_visible, visible_literal, not_xml_namespace, not_xmlns_namespace}
use Rattle.xml_writer.proofs.SpelledDocuments.{canonical_spells}

-- ---- a name of the repository is a name of XML

is_that : (c n : ℕ) → (c == n) ≡ true → (n ≤ c) × (c ≤ n)
is_that c n h = (grind (arith, nat_tests, h), grind (arith, nat_tests, h))

letter_starts : (c : ℕ) → is_ascii_alphabetic c ≡ true → IsNameStart c
letter_starts c h = elim (or_cases (is_in_range 65 90 c) (is_in_range 97 122 c) h) [ inl u ↦ inl (range_in 65 90 c u) | inr l ↦ inr (inr (inl (range_in 97 122 c l))) ]

first_starts : (c : ℕ) → is_name_first c ≡ true → IsNameStart c
first_starts c h = elim (or_cases (is_ascii_alphabetic c) (c == 95) h) [ inl a ↦ letter_starts c a | inr u ↦ inr (inl (is_that c 95 u)) ]

alphanumeric_goes_on : (c : ℕ) → is_ascii_alphanumeric c ≡ true → IsNameChar c
alphanumeric_goes_on c h = elim (or_cases (is_in_range 48 57 c || is_in_range 65 90 c) (is_in_range 97 122 c) h) [
  | inl x ↦ elim (or_cases (is_in_range 48 57 c) (is_in_range 65 90 c) x) [ inl d ↦ inr (inr (inl (range_in 48 57 c d))) | inr u ↦ inl (inl (range_in 65 90 c u)) ]
  | inr l ↦ inl (inr (inr (inl (range_in 97 122 c l))))
]

byte_goes_on : (c : ℕ) → is_name_byte c ≡ true → IsNameChar c
byte_goes_on c h = elim (or_cases (is_ascii_alphanumeric c || (c == 95) || (c == 45)) (c == 46) h) [
  | inl x ↦ elim (or_cases (is_ascii_alphanumeric c || (c == 95)) (c == 45) x) [
    | inl y ↦ elim (or_cases (is_ascii_alphanumeric c) (c == 95) y) [ inl a ↦ alphanumeric_goes_on c a | inr u ↦ inl (inr (inl (is_that c 95 u))) ]
    | inr m ↦ inr (inl (let r = is_that c 45 m in (r.0, omega (arith, r.1))))
  ]
  | inr p ↦ inr (inl (let r = is_that c 46 p in (omega (arith, r.0), r.1)))
]

ascii_first : (c : ℕ) → is_name_first c ≡ true → c < 128
ascii_first c h = grind (arith, nat_tests)

ascii_byte : (c : ℕ) → is_name_byte c ≡ true → c < 128
ascii_byte c h = grind (arith, nat_tests)

bytes_go_on : (cs : List ℕ) → list_all is_name_byte cs ≡ true → AllByRecursion IsNameChar cs × (encode_utf8_all cs ≡ cs)
bytes_go_on [] h = (tt, refl)
bytes_go_on (c ∷ cs) h =
    let parts = and_parts (is_name_byte c) (list_all is_name_byte cs) h in
    let r = bytes_go_on cs parts.1 in
    let one = encode_ascii c (ascii_byte c parts.0) in
    ((byte_goes_on c parts.0, r.0), rw (one, r.1) refl)

name_part : (name : List ℕ) → is_profile_name name ≡ true → IsPart name
name_part [] h = absurd cc
name_part (c ∷ cs) h =
    let parts = and_parts _ _ h in
    let front = and_parts (is_name_first c) (list_all is_name_byte cs) parts.0 in
    let r = bytes_go_on cs front.1 in
    let one = encode_ascii c (ascii_first c front.0) in
    record { first = c; others = cs; start = first_starts c front.0; more = r.0; spelled = rw (one, r.1) refl }

-- ---- the tags of a message

contains_map : {A B : Type 0} (f : A → B) (xs : List A) (k : ℕ) (x : A) → slice_get xs k ≡ Some x → Contains (map f xs) (f x)
contains_map f xs k x e = at_contains (map f xs) (f x) k (slice_get-map f xs k ∙ ap (option_map f) e)

module _ (R : Contents) (m : List ℕ) (ready : IsReady R m) where
  good_name : (p : Place) → Reaches R m p → (name : List ℕ) → Contains (own_names R m p ++ map (λ (e : ElementDef). e.tag) (elements_of R m p)) name → IsPart name
  good_name p reach name inside = name_part name (elim (cases_Bool (is_profile_name name)) [
    | inl good ↦ good
    | inr bad ↦ absurd (ready (OnObjects BadName) p reach (name, inside, bad))
  ])

  among_named : (p : Place) → Reaches R m p → (es : List ElementDef) → elements_of R m p ≡ es → (k : ℕ) (s : Slot Place) → slice_get (slots_by es) k ≡ Some s → IsPart s.tag
  among_named p reach es are k s at =
      let e = slot_from es k s at in
      let tags : List (List ℕ) = map (λ (e : ElementDef). e.tag) (elements_of R m p) in
      let inside : Contains tags e.0.tag = subst (λ xs. Contains (map (λ (e : ElementDef). e.tag) xs) e.0.tag) (sym are) (contains_map (λ (e : ElementDef). e.tag) es k e.0 e.1) in
      subst (λ (x : Slot Place). IsPart x.tag) (sym e.2) (good_name p reach e.0.tag (Contains-append_right (own_names R m p) tags e.0.tag inside))

  message_tag : (d : MessageDef) → find_message m R.messages ≡ Some d → IsPart d.tag
  message_tag d found =
      let own : own_names R m message ≡ d.name ∷ d.tag ∷ [] = rw found refl in
      let inside : Contains (own_names R m message) d.tag = subst (λ xs. Contains xs d.tag) (sym own) (1, omega arith, refl) in
      good_name message itself d.tag (Contains-append_left (own_names R m message) (map (λ (e : ElementDef). e.tag) (elements_of R m message)) d.tag inside)

  kind_named : (id : List ℕ) (o : Object) (reach : Reaches R m (entry id)) (found : find_entry id R.objects ≡ Some o) (kind : ObjectKind) → o.kind ≡ kind
      → (k : ℕ) (s : Slot Place) → slice_get (form_slots (form_to (λ q. q) (facets_of R) (object_form R o kind))) k ≡ Some s → IsPart s.tag
  kind_named id o reach found (object.Simple kind) is k s at = absurd (none kind o.currency at)
    where
      none : (kind : Kinds) (c : Option (List ℕ)) → slice_get (form_slots (form_to (λ q. q) (facets_of R) (simple_form R o kind c))) k ≡ Some s → ⊥
      none kinds.Amount None at = cc
      none kinds.Amount (Some c) at = cc
      none _ c at = cc
  kind_named id o reach found object.Component is k s at = among_named (entry id) reach o.elements (ap elements_or_none found ∙ ap (λ x. kind_elements x o.elements) is) k s at
  kind_named id o reach found object.Choice is k s at = among_named (entry id) reach o.elements (ap elements_or_none found ∙ ap (λ x. kind_elements x o.elements) is) k s at
  kind_named id o reach found object.External is k s at = absurd cc
  kind_named id o reach found object.Other is k s at = absurd cc

  types_named : (p : Place) → IsTypePlace R m ready p → (k : ℕ) (s : Slot Place) → slice_get (form_slots (types R m p)) k ≡ Some s → IsPart s.tag
  types_named document at k s there = by (find_message m R.messages) refl k there
    where
      by : (d : Option MessageDef) → find_message m R.messages ≡ d → (k : ℕ) → slice_get (form_slots (form_to (λ q. q) (facets_of R) (document_form d))) k ≡ Some s → IsPart s.tag
      by None f k there = absurd cc
      by (Some d) f zero there = subst (λ (x : Slot Place). IsPart x.tag) (same_Some (record { tag = d.tag; min = 1; max = Some 1; target = message }) s there) (message_tag d f)
      by (Some d) f (suc k) there = absurd cc
  types_named message at k s there = by (find_message m R.messages) refl there
    where
      by : (d : Option MessageDef) → find_message m R.messages ≡ d → slice_get (form_slots (form_to (λ q. q) (facets_of R) (message_form d))) k ≡ Some s → IsPart s.tag
      by None f there = absurd cc
      by (Some d) f there = among_named message itself d.blocks (ap blocks_or_none f) k s there
  types_named (entry id) at k s there =
      let found = object_there R m ready id at in
      kind_named id found.0 at found.1 found.0.kind refl k s (subst (λ x. slice_get (form_slots (form_to (λ q. q) (facets_of R) (entry_form R x))) k ≡ Some s) found.1 there)
  types_named nowhere at k s there = absurd cc

-- ---- the tables

slots_to : {P : Type 0} (h : ℕ → P) (f : Form ℕ Simple) → form_slots (form_to h (λ x. x) f) ≡ map (slot_to h) (form_slots f)
slots_to h (form.Sequence slots) = refl
slots_to h (form.Choice slots) = refl
slots_to h (form.Simple s) = refl
slots_to h (form.Money c s) = refl
slots_to h form.Envelope = refl
slots_to h form.LeftOut = refl
slots_to h form.Missing = refl

pub tables_named : (R : Contents) (m : List ℕ) (ready : IsReady R m) (ids : List (List ℕ)) → IsReachedList R m ids → (T : Tables) → Compiles R m ids T
    → (n k : ℕ) (s : Slot ℕ) → slice_get (form_slots (types_of T n)) k ≡ Some s → IsPart s.tag
tables_named R m ready ids list T made n k s at =
    let slot : slice_get (form_slots (form_to (place_of ids) (λ x. x) (types_of T n))) k ≡ Some (slot_to (place_of ids) s) =
    ap (λ (xs : List (Slot Place)). slice_get xs k) (slots_to (place_of ids) (types_of T n))
    ∙ (slice_get-map (slot_to (place_of ids)) (form_slots (types_of T n)) k ∙ ap (option_map (slot_to (place_of ids))) at) in
    let there : slice_get (form_slots (types R m (place_of ids n))) k ≡ Some (slot_to (place_of ids) s) =
    subst (λ (f : Form Place Simple). slice_get (form_slots f) k ≡ Some (slot_to (place_of ids) s)) (made.forms n) slot in
    types_named R m ready (place_of ids n) (type_place R m ready ids list n) k (slot_to (place_of ids) s) there

pub compiled_names : (R : Contents) (m : List ℕ) (ids : List (List ℕ)) (T : Tables) → IsMessageId m → IsReady R m → IsReachedList R m ids → Compiles R m ids T → HasXmlNames (message_of T)
compiled_names R m ids T id ready list made =
    let visible : AreVisible (message_namespace T) = subst (λ t. AreVisible (namespace_front ++ t)) (sym made.id) (namespace_visible m id) in
    record {
      tags = tables_named R m ready ids list T made;
      namespace = visible_xml (message_namespace T) visible;
      literal = visible_literal (message_namespace T) visible;
      no_xml = not_xml_namespace T.id;
      no_declaration = not_xmlns_namespace T.id;
    }

pub compiled_spells : CompiledSpells
compiled_spells R m ids T v bytes id ready list made admits canonical short = canonical_spells (message_of T) v bytes (compiled_names R m ids T id ready list made) admits canonical short
