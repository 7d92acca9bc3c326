-- The compiled types of a message that breaks no rule are sound: its codes and patterns, its names, and what its types refer to.
use Rattle.std.proofs.Common.{◌≡◌, ◌⊎◌, inl, inr, ℕ, zero, suc, ◌<◌, ◌≤◌, Bool, true, false, ◌||◌, List, [], ◌∷◌, ◌++◌, map, length, Option, Some, None, MatchOption, Contains, All, refl, sym, ap, subst, ◌∙◌, arith, codes}
use Rattle.std.specs.Prelude.{slice_get, if◌then◌else◌, ◌==◌}
use Rattle.std.specs.Char.{is_ascii_alphabetic}
use Rattle.std.specs.List.{AllByRecursion, fold}
use Rattle.std.specs.Option.{option_to_list}
use Rattle.std.specs.Str.{chars, bytes_eq}
use Rattle.std.specs.Cmp.Lexicographic.{slice_cmp}
use Rattle.std.specs.Ordering.{nat_cmp, match_ordering}
use Rattle.std.specs.declared.cmp.Ordering.{Ordering}
use Rattle.std.specs.declared.cmp.Ordering.TheVariants.{Less, Equal, Greater}
use Rattle.std.proofs.lemmas.Bool.{cases_lt}
use Rattle.std.proofs.lemmas.Bool.Decides.{nat_tests}
use Rattle.std.proofs.lemmas.List.Elements.{All-head, All-tail}
use Rattle.lexical_core.specs.Characters.{IsXmlText}
use Rattle.pattern_match.specs.Reading.{HasPositionsWithin}
use Rattle.facets.specs.declared.simple.Simple.{Simple}
use Rattle.repo_objects.specs.declared.objects.CodeDef.{CodeDef}
use Rattle.repo_objects.specs.declared.objects.Kinds.{Kinds}
use Rattle.repo_objects.specs.declared.objects.Kinds.TheVariants as kinds
use Rattle.repo_objects.specs.declared.objects.MessageDef.{MessageDef}
use Rattle.repo_objects.specs.declared.objects.Object.{Object}
use Rattle.repo_objects.specs.declared.objects.ObjectKind.{ObjectKind}
use Rattle.repo_objects.specs.declared.objects.ObjectKind.TheVariants as object
use Rattle.repo_objects.specs.Objects.{HasObjectTexts, IsXmlTextIfAny}
use Rattle.repo_objects.specs.Repository.{DictionaryEntry, Contents, IsRepository, HasEntryTexts}
use Rattle.reference_check.specs.CodeTexts.{text_of_code}
use Rattle.reference_check.specs.Forms.{Form, Slot, form_slots, form_to, slot_to}
use Rattle.reference_check.specs.Forms as form
use Rattle.reference_check.specs.Graph.{Place, document, message, entry, nowhere, find_entry, find_message, simple_form, object_form, entry_form, message_form, document_form}
use Rattle.reference_check.specs.Names.{is_profile_name, is_name_first}
use Rattle.reference_check.specs.Reach.{Reaches, itself}
use Rattle.reference_check.specs.Rules.{BadName, TooMany, set_codes}
use Rattle.reference_check.proofs.Sizes.{set_code_texts}
use Rattle.reference_check.proofs.TextsOfXml.{text_of_xml}
use Rattle.message_model.specs.SimpleTypes.{put_text, sorted_texts, texts_of, facets_by, facets_of}
use Rattle.message_model.specs.Ready.{IsReady, OnObjects}
use Rattle.message_model.specs.Sound.{IsNoOption, HasNumber}
use Rattle.message_model.specs.Tables.{Tables, TypeEntry, types_of}
use Rattle.message_model.specs.Compiled.{IsReachedList, Compiles, types, places_of, place_of, place_name, message_name, object_name}
use Rattle.message_model.proofs.Compilable.{object_there}
use Rattle.message_model.proofs.SoundFacets.{codes_length}
use Rattle.message_model.proofs.SoundTables.{type_place, tables_sound, tables_codes, tables_few}
use Rattle.message_model.proofs.SoundTypes.{IsTypePlace, IsTarget, types_lead, code_leads}
use Rattle.xsd_model.specs.StepsOf.{IsSoundSimple}
use Rattle.xsd_model.specs.SchemaOf.{HasSoundFacets}
use Rattle.xsd_model.proofs.ReadyFacets.{message_found, facets_at}
use Rattle.xsd_model.proofs.ReadyNames.{listed}
use Rattle.xsd_model.proofs.Sequences.{slice_get-part}
use Rattle.asn1_model.specs.Names.{is_in_name}
use Rattle.asn1_model.specs.Sound.{IsSoundSimpleType, IsSoundType, MayBeReferredTo, BeginsName, AllBegin, IsSoundAsn}

-- ---- the texts of codes

all_put : (texts : List (List ℕ)) (text : List ℕ) → AllByRecursion IsXmlText texts → IsXmlText text → AllByRecursion IsXmlText (put_text texts text)
all_put [] text all is = (is, tt)
all_put (other ∷ others) text (first, all) is = by (slice_cmp nat_cmp text other) (all_put others text all is)
  where
    by : (o : Ordering) → AllByRecursion IsXmlText (put_text others text)
        → AllByRecursion IsXmlText (match_ordering o (text ∷ (other ∷ others)) (other ∷ others) (other ∷ put_text others text))
    by Less more = (is, (first, all))
    by Equal more = (first, all)
    by Greater more = (first, more)

all_sorted : (texts done : List (List ℕ)) → AllByRecursion IsXmlText done → AllByRecursion IsXmlText texts → AllByRecursion IsXmlText (fold put_text done texts)
all_sorted [] done all more = all
all_sorted (text ∷ texts) done all (is, more) = all_sorted texts (put_text done text) (all_put done text all is) more

all_at : (texts : List (List ℕ)) (k : ℕ) (text : List ℕ) → AllByRecursion IsXmlText texts → slice_get texts k ≡ Some text → IsXmlText text
all_at [] k text all e = absurd cc
all_at (other ∷ others) zero text (first, all) e = (let same : other ≡ text = cc in subst IsXmlText same first)
all_at (other ∷ others) (suc k) text (first, all) e = all_at others k text all e

found_texts : (id : List ℕ) (es : List DictionaryEntry) (o : Object) → All HasEntryTexts es → find_entry id es ≡ Some o → HasObjectTexts o
found_texts id [] o all e = absurd cc
found_texts id (x ∷ es) o all e = by (bytes_eq x.id id) (found_texts id es o (All-tail HasEntryTexts x es all)) e
  where
    by : (b : Bool) → (find_entry id es ≡ Some o → HasObjectTexts o) → (if b then Some x.object else find_entry id es) ≡ Some o → HasObjectTexts o
    by true later e = (let same : x.object ≡ o = cc in let first : HasEntryTexts x = All-head HasEntryTexts x es all in subst HasObjectTexts same first.object)
    by false later e = later e

-- ---- names

letter_in_name : (b : ℕ) → is_ascii_alphabetic b ≡ true → is_in_name b ≡ true
letter_in_name b e = grind (arith, nat_tests)

underscore : (b : ℕ) → (b == 95) ≡ true → b ≡ 95
underscore b e = grind (arith, nat_tests)

begins : (name : List ℕ) → (is_profile_name name ≡ false → ⊥) → BeginsName name
begins [] good = absurd (good refl)
begins (b ∷ bs) good = first (is_name_first b) refl
  where
    letter : (l u : Bool) → is_ascii_alphabetic b ≡ l → (b == 95) ≡ u → (l || u) ≡ true → BeginsName (b ∷ bs)
    letter true u e f h = inl (letter_in_name b e)
    letter false true e f h = inr (underscore b f)
    letter false false e f h = absurd cc

    first : (x : Bool) → is_name_first b ≡ x → BeginsName (b ∷ bs)
    first true e = letter (is_ascii_alphabetic b) (b == 95) refl refl e
    first false e = absurd (good (rw e refl))

all_begin : (R : Contents) (m : List ℕ) (ts : List TypeEntry) (ps : List Place) → map (λ (t : TypeEntry). t.name) ts ≡ map (place_name R m) ps
    → ((n : ℕ) (p : Place) → slice_get ps n ≡ Some p → BeginsName (place_name R m p)) → AllBegin ts
all_begin R m [] ps e each = tt
all_begin R m (t ∷ ts) [] e each = absurd cc
all_begin R m (t ∷ ts) (p ∷ ps) e each =
    let own : place_name R m p ≡ t.name = cc in
    let rest : map (λ (x : TypeEntry). x.name) ts ≡ map (place_name R m) ps = cc in
    (subst BeginsName own (each 0 p refl), all_begin R m ts ps rest (λ n q at. each (suc n) q at))

module _ (R : Contents) (m : List ℕ) (whole : IsRepository R) (ready : IsReady R m) where
  -- ---- the simple type of an object

  module _ (id : List ℕ) (o : Object) (reach : Reaches R m (entry id)) (found : find_entry id R.objects ≡ Some o) where
    few_codes : length (set_codes o) ≤ 65536
    few_codes = elim (cases_lt 65536 (length (set_codes o))) [
      | inl above ↦ absurd (ready (OnObjects TooMany) (entry id) reach (inr (inl (id, o, refl, found, inl above))))
      | inr below ↦ below
    ]

    code_text : (c : CodeDef) → Contains (set_codes o) c → IsXmlTextIfAny (text_of_code R.objects o c)
    code_text c (i, below, e) =
        let texts : HasObjectTexts o = found_texts id R.objects o whole.object_texts found in
        text_of_xml 16 R.objects o c whole.object_texts (set_code_texts o (set_codes o) i c texts refl below (sym e))

    all_texts : (cs : List CodeDef) → ((c : CodeDef) → Contains cs c → IsXmlTextIfAny (text_of_code R.objects o c)) → AllByRecursion IsXmlText (texts_of R.objects o cs)
    all_texts [] each = tt
    all_texts (c ∷ cs) each = by (text_of_code R.objects o c) (each c (0, omega arith, refl)) (all_texts cs (λ d (i, below, e). each d (suc i, omega (arith, below), e)))
      where
        by : (x : Option (List ℕ)) → IsXmlTextIfAny x → AllByRecursion IsXmlText (texts_of R.objects o cs) → AllByRecursion IsXmlText (option_to_list x ++ texts_of R.objects o cs)
        by None h rest = rest
        by (Some text) h rest = (h, rest)

    codes_sound : (cs : List CodeDef) → set_codes o ≡ cs → (codes : List (List ℕ)) → (facets_by R.objects o cs).codes ≡ Some codes → AllByRecursion IsXmlText codes × (length codes ≤ 65536)
    codes_sound [] is codes e = absurd cc
    codes_sound (c ∷ cs) is codes e =
        let same : sorted_texts (texts_of R.objects o (c ∷ cs)) ≡ codes = cc in
        let each : (d : CodeDef) → Contains (c ∷ cs) d → IsXmlTextIfAny (text_of_code R.objects o d) = λ d at. code_text d (subst (λ (xs : List CodeDef). Contains xs d) (sym is) at) in
        let texts = all_sorted (texts_of R.objects o (c ∷ cs)) [] tt (all_texts (c ∷ cs) each) in
        let few = few_codes in
        let fewer = codes_length R.objects o (c ∷ cs) in
        let long : length (set_codes o) ≡ length (c ∷ cs) = ap length is in
        subst (λ (xs : List (List ℕ)). AllByRecursion IsXmlText xs × (length xs ≤ 65536)) same (texts, omega (arith, few, fewer, long))

    own_facets : (k : ObjectKind) (s : Simple) → form_to (λ q. q) (facets_of R) (object_form R o k) ≡ form.Simple s → facets_of R o ≡ s
    own_facets (object.Simple k) s e = by k o.currency e
      where
        by : (k : Kinds) (c : Option (List ℕ)) → form_to (λ q. q) (facets_of R) (simple_form R o k c) ≡ form.Simple s → facets_of R o ≡ s
        by kinds.Amount None e = cc
        by kinds.Amount (Some c) e = absurd cc
        by _ c e = cc
    own_facets object.Component s e = absurd cc
    own_facets object.Choice s e = absurd cc
    own_facets object.External s e = absurd cc
    own_facets object.Other s e = absurd cc

  -- ---- the simple type of a place

  small : (o : Option (List ℕ)) (p : List ℕ) → MatchOption o (Unit {0}) (λ pattern. HasPositionsWithin (chars pattern) 65536) → o ≡ Some p → HasPositionsWithin (chars p) 65536
  small None p h e = absurd cc
  small (Some q) p h e = (let same : q ≡ p = cc in subst (λ x. HasPositionsWithin (chars x) 65536) same h)

  simple_at : (p : Place) → IsTypePlace R m ready p → (s : Simple) → types R m p ≡ form.Simple s → IsSoundSimpleType s
  simple_at document at s e = by (find_message m R.messages) e
    where
      by : (d : Option MessageDef) → form_to (λ q. q) (facets_of R) (document_form d) ≡ form.Simple s → IsSoundSimpleType s
      by None e = absurd cc
      by (Some d) e = absurd cc
  simple_at message at s e = by (find_message m R.messages) e
    where
      by : (d : Option MessageDef) → form_to (λ q. q) (facets_of R) (message_form d) ≡ form.Simple s → IsSoundSimpleType s
      by None e = absurd cc
      by (Some d) e = absurd cc
  simple_at (entry id) reach s e =
      let there = object_there R m ready id reach in
      let own : form_to (λ q. q) (facets_of R) (object_form R there.0 there.0.kind) ≡ form.Simple s = ap (λ x. form_to (λ q. q) (facets_of R) (entry_form R x)) (sym there.1) ∙ e in
      let same : facets_of R there.0 ≡ s = own_facets id there.0 reach there.1 there.0.kind s own in
      let facets : IsSoundSimple s = subst (λ (F : Form Place Simple). HasSoundFacets F) e (facets_at R m ready (entry id) (inr reach)) in
      let listed_codes : (codes : List (List ℕ)) → s.codes ≡ Some codes → AllByRecursion IsXmlText codes × (length codes ≤ 65536) =
      λ codes is. codes_sound id there.0 reach there.1 (set_codes there.0) refl codes (ap (λ (x : Simple). x.codes) same ∙ is) in
      record {
        texts = λ codes is k text at. all_at codes k text (listed_codes codes is).0 at;
        few = λ codes is. (let few = (listed_codes codes is).1 in omega (arith, few));
        pattern = λ p is. small s.pattern p facets.pattern is;
      }
  simple_at nowhere at s e = absurd cc

  -- ---- the names of places

  begins_at : (p : Place) → (p ≡ document) ⊎ Reaches R m p → BeginsName (place_name R m p)
  begins_at document at = inl refl
  begins_at message at =
      let d = message_found R m ready in
      let good : is_profile_name d.0.name ≡ false → ⊥ = λ bad. ready (OnObjects BadName) message itself (rw d.1 (d.0.name, (0, omega arith, refl), bad)) in
      subst (λ o. BeginsName (message_name o)) (sym d.1) (begins d.0.name good)
  begins_at (entry id) (inl e) = absurd cc
  begins_at (entry id) (inr reach) =
      let there = object_there R m ready id reach in
      let good : is_profile_name there.0.name ≡ false → ⊥ = λ bad. ready (OnObjects BadName) (entry id) reach (rw there.1 (there.0.name, (0, omega arith, refl), bad)) in
      subst (λ o. BeginsName (object_name o)) (sym there.1) (begins there.0.name good)
  begins_at nowhere (inl e) = absurd cc
  begins_at nowhere (inr reach) = absurd (elim reach [ ])

  module _ (ids : List (List ℕ)) (list : IsReachedList R m ids) (T : Tables) (made : Compiles R m ids T) where
    -- ---- what types refer to

    above_zero : (q : ℕ) → IsTarget R m ready (place_of ids q) → 0 < q
    above_zero zero t = absurd t
    above_zero (suc q) t = omega arith

    at_place : (n : ℕ) (F : Form ℕ Simple) → types_of T n ≡ F → types R m (place_of ids n) ≡ form_to (place_of ids) (λ x. x) F
    at_place n F is = sym (made.forms n) ∙ ap (form_to (place_of ids) (λ x. x)) is

    leads : (n k : ℕ) (fs : List (Slot ℕ)) (s : Slot ℕ) → form_slots (types R m (place_of ids n)) ≡ map (slot_to (place_of ids)) fs → slice_get fs k ≡ Some s → 0 < s.target
    leads n k fs s are at =
        let there : slice_get (form_slots (types R m (place_of ids n))) k ≡ Some (slot_to (place_of ids) s) =
        ap (λ (xs : List (Slot Place)). slice_get xs k) are ∙ slice_get-part (slot_to (place_of ids)) fs k s at in
        above_zero s.target (types_lead R m ready (place_of ids n) (type_place R m ready ids list n) k (slot_to (place_of ids) s) there)

    type_sound : (n : ℕ) (F : Form ℕ Simple) → types_of T n ≡ F → IsSoundType MayBeReferredTo (types_of T) F
    type_sound n (form.Sequence fs) is = λ k s at. (
      leads n k fs s (ap form_slots (at_place n (form.Sequence fs) is)) at,
      (tables_sound R m ready ids list T made n).bounds k s (subst (λ (F : Form ℕ Simple). slice_get (form_slots F) k ≡ Some s) (sym is) at),
    )
    type_sound n (form.Choice fs) is = λ k s at. (
      leads n k fs s (ap form_slots (at_place n (form.Choice fs) is)) at,
      (tables_sound R m ready ids list T made n).bounds k s (subst (λ (F : Form ℕ Simple). slice_get (form_slots F) k ≡ Some s) (sym is) at),
      (subst (λ (F : Form ℕ Simple). IsNoOption F) is (tables_sound R m ready ids list T made n).alternatives) k s at,
    )
    type_sound n (form.Simple s) is = simple_at (place_of ids n) (type_place R m ready ids list n) s (at_place n (form.Simple s) is)
    type_sound n (form.Money c x) is =
        let code = tables_codes R m ready ids list T made n c x is in (
          above_zero c (code_leads R m ready (place_of ids n) (place_of ids c) x (type_place R m ready ids list n) (at_place n (form.Money c x) is)),
          subst (λ (F : Form ℕ Simple). HasNumber F) is (tables_sound R m ready ids list T made n).number,
          code.0,
          code.1,
          simple_at (place_of ids c) (type_place R m ready ids list c) code.0 (at_place c (form.Simple code.0) code.1),
        )
    type_sound n form.Envelope is = tt
    type_sound n form.LeftOut is = tt
    type_sound n form.Missing is = tt

    -- ---- `Document`

    slots_of_root : (F : Form ℕ Simple) (slots : List (Slot Place)) → form_to (place_of ids) (λ x. x) F ≡ form.Sequence slots → (fs : List (Slot ℕ)) × (F ≡ form.Sequence fs)
    slots_of_root (form.Sequence fs) slots e = (fs, refl)
    slots_of_root (form.Choice fs) slots e = absurd cc
    slots_of_root (form.Simple s) slots e = absurd cc
    slots_of_root (form.Money c x) slots e = absurd cc
    slots_of_root form.Envelope slots e = absurd cc
    slots_of_root form.LeftOut slots e = absurd cc
    slots_of_root form.Missing slots e = absurd cc

    root : (fs : List (Slot ℕ)) × (types_of T 0 ≡ form.Sequence fs)
    root =
        let d = message_found R m ready in
        slots_of_root (types_of T 0) (record { tag = d.0.tag; min = 1; max = Some 1; target = message } ∷ [])
        (made.forms 0 ∙ ap (λ x. form_to (λ q. q) (facets_of R) (document_form x)) d.1)

    named : (ts : List TypeEntry) → map (λ (t : TypeEntry). t.name) ts ≡ map (place_name R m) (places_of ids)
        → (first : TypeEntry) × (others : List TypeEntry) × (ts ≡ first ∷ others) × (first.name ≡ codes "Document") × AllBegin others
    named [] e = absurd cc
    named (t ∷ ts) e =
        let own : t.name ≡ codes "Document" = cc in
        let rest : map (λ (x : TypeEntry). x.name) ts ≡ map (place_name R m) (message ∷ map entry ids) = cc in
        (t, ts, refl, own, all_begin R m ts (message ∷ map entry ids) rest (λ n p at. begins_at p (listed R m ready ids list (suc n) p at)))

    pub types_are_sound : IsSoundAsn T
    types_are_sound = record {
      forms = λ n. type_sound n (types_of T n) refl;
      few = (let few = tables_few R m ready ids list T made in omega (arith, few));
      root = root;
      document = named T.types made.names;
    }
