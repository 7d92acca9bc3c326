-- Leaves as values of the module's types: which they are, and their contents.
use Rattle.std.proofs.Common.{◌≡◌, ℕ, zero, suc, ◌<◌, ◌^◌, List, [], ◌∷◌, map, length, get_or, Option, Some, None, Ok, Contains, refl, sym, ap, subst, ◌∙◌, arith}
use Rattle.std.specs.Prelude.{encode_utf8_all}
use Rattle.std.specs.Str.{bytes_eq}
use Rattle.std.proofs.lemmas.Bool.{or_parts}
use Rattle.std.proofs.lemmas.List.{length-map}
use Rattle.std.proofs.lemmas.List.Elements.{Contains-get_or}
use Rattle.std.proofs.lemmas.Option.{slice_get_within, slice_get-get_or}
use Rattle.lexical_core.specs.Characters.{IsXmlText}
use Rattle.lexical_core.specs.Tree.{Tree}
use Rattle.lexical_core.proofs.EqualBytes.{same_bytes}
use Rattle.data_types.specs.Leaf.{Leaf, Code}
use Rattle.data_types.specs.declared.kind.Kind.{Kind}
use Rattle.data_types.specs.declared.kind.Kind.TheVariants as kind
use Rattle.data_types.specs.declared.leaf.LeafRef.TheVariants as ref
use Rattle.facets.specs.declared.simple.Simple.{Simple}
use Rattle.facets.specs.LeafUnder.{Fits, IsLeafBy, IsCodeAt}
use Rattle.facets.specs.PatternChecks.{IsDateKind}
use Rattle.facets.proofs.FitLemmas.{given_fits}
use Rattle.facets.proofs.TextRules.{coded_answer}
use Rattle.der_model.specs.LeafContents.{leaf_contents, integer_octets}
use Rattle.der_model.specs.Der.{Octets}
use Rattle.asn1_model.specs.declared.module.Module.{Module}
use Rattle.asn1_model.specs.Constraints.{IsTextValue, IsRealValue, IsOctetsValue, IsDateValue}
use Rattle.asn1_model.specs.Values.{AsnValue, One, Primitive, Enumerated, Sequence, Chosen, Listed, AsnHas, contents, identifier_place}
use Rattle.asn1_model.specs.InstanceValues.{leaf_by}
use Rattle.asn1_model.specs.ModuleOf.{step_by, shape_by, simple_shape, code_names}
use Rattle.asn1_model.specs.Names.{is_name_among, asn_identifier}
use Rattle.asn1_model.specs.Sound.{IsSoundSimpleType}
use Rattle.asn1_model.proofs.TypeNameLemmas.{length-given}
use Rattle.asn1_model.proofs.NamesApart.{AreNew, given_are_new, later_new}
use Rattle.asn1_model.proofs.Leaves.{leaf_in, text_there, text_back, number_there, number_back, octets_there, octets_back, boolean_there, boolean_back, date_there, date_back}

-- ---- identifiers

-- the place of a name that is new
place_is : (taken ns : List (List ℕ)) (k : ℕ) → AreNew taken ns → k < length ns → identifier_place (get_or ns k []) ns ≡ k
place_is taken [] k new lt = absurd (omega arith)
place_is taken (n ∷ ns) zero new lt = rw (same_bytes n) refl
place_is taken (n ∷ ns) (suc k) new lt =
    let apart = (or_parts (bytes_eq (get_or ns k []) n) (is_name_among taken (get_or ns k [])) (later_new (n ∷ taken) ns k new.1 (omega arith))).0 in
    rw apart (ap suc (place_is (n ∷ taken) ns k new.1 (omega arith)))

names_length : (codes : List (List ℕ)) → length (code_names codes) ≡ length codes
names_length codes = length-given [] (map asn_identifier codes) ∙ length-map codes asn_identifier

names_new : (codes : List (List ℕ)) → length codes < 2 ^ 64 → AreNew [] (code_names codes)
names_new codes few = given_are_new [] (map asn_identifier codes) (let e = length-map codes asn_identifier in omega arith)

-- ---- the leaf of a simple type

abbrev pub There : (Tree → List ℕ) → Module → Simple → Kind → Option (List (List ℕ)) → Leaf → Type 0
There fragment M s k codes leaf = AsnHas fragment M (One (Some (shape_by k codes s))) (leaf_by k codes leaf) × (contents M (One (Some (shape_by k codes s))) (leaf_by k codes leaf) ≡ Octets (leaf_contents leaf))

code_place : (codes : List (List ℕ)) (text : List ℕ) (leaf : Leaf) → IsCodeAt codes text leaf → (k : ℕ) × (leaf ≡ Code k) × (k < length codes)
code_place codes text (Code k) h = (k, refl, slice_get_within codes k (encode_utf8_all text) h.1)
code_place codes text leaf h = absurd h

code_there : (fragment : Tree → List ℕ) (M : Module) (s : Simple) (codes : List (List ℕ)) (leaf : Leaf) → IsSoundSimpleType s → s.kind ≡ kind.Text → s.codes ≡ Some codes → Fits s leaf → There fragment M s kind.Text (Some codes) leaf
code_there fragment M s codes leaf sound e c (text, canonical, given) = go (code_place codes text leaf (leaf_in s kind.Text (Some codes) text leaf e c given.spelled))
  where
    go : (k : ℕ) × (leaf ≡ Code k) × (k < length codes) → There fragment M s kind.Text (Some codes) leaf
    go (k, is, lt) =
        let within : k < length (code_names codes) = (let n = names_length codes in omega arith) in
        subst (There fragment M s kind.Text (Some codes)) (sym is) (
          Contains-get_or (code_names codes) k [] within,
          ap (λ n. Octets (integer_octets n)) (place_is [] (code_names codes) k (names_new codes (sound.few codes c)) within),
        )

-- the kinds of dates
date_plain : (fragment : Tree → List ℕ) (M : Module) (s : Simple) (k : Kind) (codes : Option (List (List ℕ))) (leaf : Leaf) → IsDateKind k → IsDateValue k s.pattern leaf → There fragment M s k codes leaf
date_plain fragment M s kind.Text codes leaf d h = absurd d
date_plain fragment M s kind.Decimal codes leaf d h = absurd d
date_plain fragment M s kind.Boolean codes leaf d h = absurd d
date_plain fragment M s kind.Binary codes leaf d h = absurd d
date_plain fragment M s kind.Envelope codes leaf d h = absurd d
date_plain fragment M s k codes leaf d h = (h, refl)

date_at : (s : Simple) (k : Kind) (leaf : Leaf) → IsSoundSimpleType s → s.kind ≡ k → IsDateKind k → Fits s leaf → IsDateValue k s.pattern leaf
date_at s k leaf sound e d f = subst (λ (x : Kind). IsDateValue x s.pattern leaf) e (date_there s leaf sound (subst IsDateKind (sym e) d) f)

there_by : (fragment : Tree → List ℕ) (M : Module) (s : Simple) (k : Kind) (codes : Option (List (List ℕ))) (leaf : Leaf) → IsSoundSimpleType s → s.kind ≡ k → s.codes ≡ codes → Fits s leaf → There fragment M s k codes leaf
there_by fragment M s kind.Text None leaf sound e c f = (subst (λ x. IsTextValue x s.pattern leaf) (sym (ap (λ (k : Kind). step_by k s) e)) (text_there s leaf sound e c f), refl)
there_by fragment M s kind.Text (Some codes) leaf sound e c f = code_there fragment M s codes leaf sound e c f
there_by fragment M s kind.Decimal codes leaf sound e c f = (subst (λ x. IsRealValue x leaf) (sym (ap (λ (k : Kind). step_by k s) e)) (number_there s leaf e f), refl)
there_by fragment M s kind.Boolean codes leaf sound e c f = (boolean_there s leaf e f, refl)
there_by fragment M s kind.Binary codes leaf sound e c f = (subst (λ x. IsOctetsValue x leaf) (sym (ap (λ (k : Kind). step_by k s) e)) (octets_there s leaf e f), refl)
there_by fragment M s kind.Envelope codes leaf sound e c (text, canonical, given) = absurd (subst (λ (k : Kind). IsLeafBy k s.codes text leaf) e given.spelled)
there_by fragment M s kind.Date codes leaf sound e c f = date_plain fragment M s kind.Date codes leaf tt (date_at s kind.Date leaf sound e tt f)
there_by fragment M s kind.DateTime codes leaf sound e c f = date_plain fragment M s kind.DateTime codes leaf tt (date_at s kind.DateTime leaf sound e tt f)
there_by fragment M s kind.Time codes leaf sound e c f = date_plain fragment M s kind.Time codes leaf tt (date_at s kind.Time leaf sound e tt f)
there_by fragment M s kind.Year codes leaf sound e c f = date_plain fragment M s kind.Year codes leaf tt (date_at s kind.Year leaf sound e tt f)
there_by fragment M s kind.YearMonth codes leaf sound e c f = date_plain fragment M s kind.YearMonth codes leaf tt (date_at s kind.YearMonth leaf sound e tt f)
there_by fragment M s kind.MonthDay codes leaf sound e c f = date_plain fragment M s kind.MonthDay codes leaf tt (date_at s kind.MonthDay leaf sound e tt f)
there_by fragment M s kind.Month codes leaf sound e c f = date_plain fragment M s kind.Month codes leaf tt (date_at s kind.Month leaf sound e tt f)
there_by fragment M s kind.Day codes leaf sound e c f = date_plain fragment M s kind.Day codes leaf tt (date_at s kind.Day leaf sound e tt f)

-- a leaf that fits is a value of the type, with its contents
pub leaf_there : (fragment : Tree → List ℕ) (M : Module) (s : Simple) (leaf : Leaf) → IsSoundSimpleType s → Fits s leaf → There fragment M s s.kind s.codes leaf
leaf_there fragment M s leaf sound f = there_by fragment M s s.kind s.codes leaf sound refl refl f

-- ---- and back

abbrev pub Back : Simple → Kind → Option (List (List ℕ)) → AsnValue → Type 0
Back s k codes a = (leaf : Leaf) × Fits s leaf × (leaf_by k codes leaf ≡ a)

code_fits : (s : Simple) (codes : List (List ℕ)) (k : ℕ) → IsSoundSimpleType s → s.kind ≡ kind.Text → s.codes ≡ Some codes → k < length codes → Fits s (Code k)
code_fits s codes k sound e c lt = go (sound.texts codes c k (get_or codes k []) (slice_get-get_or codes k [] lt))
  where
    go : IsXmlText (get_or codes k []) → Fits s (Code k)
    go (text, all, is) = given_fits s text (Code k) (coded_answer s text codes (Ok (ref.Code k)) e c all (all, slice_get-get_or codes k [] lt ∙ ap (λ b. Some b) (sym is)))

code_back : (s : Simple) (codes : List (List ℕ)) (name : List ℕ) → IsSoundSimpleType s → s.kind ≡ kind.Text → s.codes ≡ Some codes → Contains (code_names codes) name → Back s kind.Text (Some codes) (Enumerated name)
code_back s codes name sound e c (k, lt, is) = (
  Code k,
  code_fits s codes k sound e c (let n = names_length codes in omega arith),
  ap Enumerated (default_free (code_names codes) k name lt ∙ is),
)
  where
    default_free : (ns : List (List ℕ)) (k : ℕ) (d : List ℕ) → k < length ns → get_or ns k [] ≡ get_or ns k d
    default_free [] k d lt = absurd (omega arith)
    default_free (n ∷ ns) zero d lt = refl
    default_free (n ∷ ns) (suc k) d lt = default_free ns k d (omega arith)

date_back_at : (s : Simple) (k : Kind) (leaf : Leaf) → s.kind ≡ k → IsDateKind k → IsDateValue k s.pattern leaf → Fits s leaf
date_back_at s k leaf e d h = date_back s leaf (subst IsDateKind (sym e) d) (subst (λ (x : Kind). IsDateValue x s.pattern leaf) (sym e) h)

back_by : (fragment : Tree → List ℕ) (M : Module) (s : Simple) (k : Kind) (codes : Option (List (List ℕ))) (a : AsnValue) → IsSoundSimpleType s → s.kind ≡ k → s.codes ≡ codes → AsnHas fragment M (One (Some (shape_by k codes s))) a → Back s k codes a
back_by fragment M s kind.Text None (Primitive leaf) sound e c h = (leaf, text_back s leaf e c (subst (λ x. IsTextValue x s.pattern leaf) (ap (λ (k : Kind). step_by k s) e) h), refl)
back_by fragment M s kind.Text (Some codes) (Enumerated name) sound e c h = code_back s codes name sound e c h
back_by fragment M s kind.Decimal codes (Primitive leaf) sound e c h = (leaf, number_back s leaf e (subst (λ x. IsRealValue x leaf) (ap (λ (k : Kind). step_by k s) e) h), refl)
back_by fragment M s kind.Boolean codes (Primitive leaf) sound e c h = (leaf, boolean_back s leaf e h, refl)
back_by fragment M s kind.Binary codes (Primitive leaf) sound e c h = (leaf, octets_back s leaf e (subst (λ x. IsOctetsValue x leaf) (ap (λ (k : Kind). step_by k s) e) h), refl)
back_by fragment M s kind.Date codes (Primitive leaf) sound e c h = (leaf, date_back_at s kind.Date leaf e tt h, refl)
back_by fragment M s kind.DateTime codes (Primitive leaf) sound e c h = (leaf, date_back_at s kind.DateTime leaf e tt h, refl)
back_by fragment M s kind.Time codes (Primitive leaf) sound e c h = (leaf, date_back_at s kind.Time leaf e tt h, refl)
back_by fragment M s kind.Year codes (Primitive leaf) sound e c h = (leaf, date_back_at s kind.Year leaf e tt h, refl)
back_by fragment M s kind.YearMonth codes (Primitive leaf) sound e c h = (leaf, date_back_at s kind.YearMonth leaf e tt h, refl)
back_by fragment M s kind.MonthDay codes (Primitive leaf) sound e c h = (leaf, date_back_at s kind.MonthDay leaf e tt h, refl)
back_by fragment M s kind.Month codes (Primitive leaf) sound e c h = (leaf, date_back_at s kind.Month leaf e tt h, refl)
back_by fragment M s kind.Day codes (Primitive leaf) sound e c h = (leaf, date_back_at s kind.Day leaf e tt h, refl)
back_by fragment M s kind.Text None (Sequence cs) sound e c h = absurd h.0
back_by fragment M s kind.Text None (Chosen k a) sound e c h = absurd h.0
back_by fragment M s kind.Text None (Listed is) sound e c h = absurd h.0
back_by fragment M s kind.Text None (Enumerated n) sound e c h = absurd h
back_by fragment M s kind.Text (Some codes) (Sequence cs) sound e c h = absurd h.0
back_by fragment M s kind.Text (Some codes) (Chosen k a) sound e c h = absurd h.0
back_by fragment M s kind.Text (Some codes) (Listed is) sound e c h = absurd h.0
back_by fragment M s kind.Text (Some codes) (Primitive l) sound e c h = absurd h
back_by fragment M s kind.Envelope codes (Primitive l) sound e c h = absurd h
back_by fragment M s k codes (Sequence cs) sound e c h = absurd h.0
back_by fragment M s k codes (Chosen j a) sound e c h = absurd h.0
back_by fragment M s k codes (Listed is) sound e c h = absurd h.0
back_by fragment M s k codes (Enumerated n) sound e c h = absurd h

-- a value of the type is a leaf that fits
pub leaf_back : (fragment : Tree → List ℕ) (M : Module) (s : Simple) (a : AsnValue) → IsSoundSimpleType s → AsnHas fragment M (One (Some (simple_shape s))) a → Back s s.kind s.codes a
leaf_back fragment M s a sound h = back_by fragment M s s.kind s.codes a sound refl refl h
