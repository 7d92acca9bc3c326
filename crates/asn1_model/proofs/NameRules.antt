-- The names of a module are distinct, and have the form that X.680 asks.
use Rattle.std.proofs.Common.{◌≡◌, inl, ℕ, ◌+◌, ◌<◌, ◌≤◌, ◌^◌, false, List, [], ◌∷◌, map, length, Option, Some, None, refl, sym, ap, subst, ◌∙◌, arith, codes}
use Rattle.std.specs.Str.{bytes_eq}
use Rattle.std.specs.List.{AllByRecursion}
use Rattle.std.proofs.lemmas.Bool.{or_parts}
use Rattle.std.proofs.lemmas.List.{length-map}
use Rattle.data_types.specs.declared.kind.Kind.{Kind}
use Rattle.data_types.specs.declared.kind.Kind.TheVariants as kind
use Rattle.facets.specs.declared.simple.Simple.{Simple}
use Rattle.reference_check.specs.Forms.{Form, Slot, form_slots}
use Rattle.reference_check.specs.Forms as form
use Rattle.message_model.specs.Sound.{AreSound}
use Rattle.message_model.specs.Tables.{Tables, types_of}
use Rattle.asn1_model.specs.Names.{is_name_among, asn_identifier, given_names}
use Rattle.asn1_model.specs.ModuleOf.{Numbered, by_name, type_name_of, names_given, asn_name_of, slot_identifier, fields_with, fields_of, shape_by, shape_of, step_of, with_shape, types_with, module_of}
use Rattle.asn1_model.specs.NameRules.{AreDistinct, field_names, identifiers_in, names_of_types, IsIdentifier, IsReference, HasDistinctNames, HasNameForms}
use Rattle.asn1_model.specs.Sound.{IsSoundAsn, IsSoundSimpleType, IsSoundType, MayBeReferredTo}
use Rattle.asn1_model.specs.declared.module.AsnShape.{AsnShape}
use Rattle.asn1_model.specs.declared.module.AsnShape.TheVariants as shape
use Rattle.asn1_model.specs.declared.module.AsnType.{AsnType}
use Rattle.asn1_model.proofs.NameForms.{slots_form, identifiers_form, type_name_form, candidate_identifier, candidate_reference, given_hold}
use Rattle.asn1_model.proofs.NamesApart.{AreNew, given_are_new, new_distinct, given_distinct}
use Rattle.asn1_model.proofs.TypeNameLemmas.{length-given}
use Rattle.asn1_model.proofs.Typed.{sorted_length}

-- ---- where there are none, and those of an amount

none_distinct : AreDistinct []
none_distinct = new_distinct [] [] tt

amount_distinct : AreDistinct (codes "ccy" ∷ codes "base" ∷ [])
amount_distinct = new_distinct [] (codes "ccy" ∷ codes "base" ∷ []) (refl, (refl, tt))

amount_form : AllByRecursion IsIdentifier (codes "ccy" ∷ codes "base" ∷ [])
amount_form = ((refl, (inl refl, (inl refl, tt))), ((refl, (inl refl, (inl refl, (inl refl, tt)))), tt))

-- ---- the identifiers of a type

-- each field has the name that it is given
pub field_names-fields_with : {P : Type 0} (name : P → List ℕ) (fs : List (Slot P)) (ns : List (List ℕ)) → length ns ≡ length fs → field_names (fields_with name fs ns) ≡ ns
field_names-fields_with name [] [] e = refl
field_names-fields_with name [] (n ∷ ns) e = absurd cc
field_names-fields_with name (s ∷ fs) [] e = absurd cc
field_names-fields_with name (s ∷ fs) (n ∷ ns) e = ap (λ xs. n ∷ xs) (field_names-fields_with name fs ns cc)

pub field_names-fields_of : {P : Type 0} (name : P → List ℕ) (fs : List (Slot P)) → field_names (fields_of name fs) ≡ given_names (map slot_identifier fs)
field_names-fields_of name fs = field_names-fields_with name fs (given_names (map slot_identifier fs)) (length-given [] (map slot_identifier fs) ∙ length-map fs slot_identifier)

-- what holds of the names that are given to identifiers holds of the identifiers in each shape
module _ (Hold : List (List ℕ) → Type 0) (none : Hold []) (amount : Hold (codes "ccy" ∷ codes "base" ∷ [])) (given : (names : List (List ℕ)) → length names < 2 ^ 64 → AllByRecursion IsIdentifier names → Hold (given_names names)) where
  fields_hold : {P : Type 0} (name : P → List ℕ) (fs : List (Slot P)) → length fs ≤ 4096 → Hold (field_names (fields_of name fs))
  fields_hold name fs few = subst Hold (sym (field_names-fields_of name fs)) (given (map slot_identifier fs) (let e = length-map fs slot_identifier in omega arith) (slots_form fs))

  simple_holds : (k : Kind) (texts : Option (List (List ℕ))) (s : Simple) → ((codes : List (List ℕ)) → texts ≡ Some codes → length codes < 2 ^ 64) → Hold (identifiers_in (shape_by k texts s))
  simple_holds kind.Text (Some texts) s few = given (map asn_identifier texts) (let e = length-map texts asn_identifier in let lt = few texts refl in omega arith) (identifiers_form texts)
  simple_holds k texts s few = none

  form_holds : {P : Type 0} (name : P → List ℕ) (F : Form P Simple) (sh : AsnShape) → length (form_slots F) ≤ 4096 → ((s : Simple) → F ≡ form.Simple s → IsSoundSimpleType s) → shape_of name F ≡ Some sh → Hold (identifiers_in sh)
  form_holds name (form.Sequence fs) sh few sound e = (let same : shape.Sequence (fields_of name fs) ≡ sh = cc in subst (λ x. Hold (identifiers_in x)) same (fields_hold name fs few))
  form_holds name (form.Choice fs) sh few sound e = (let same : shape.Choice (fields_of name fs) ≡ sh = cc in subst (λ x. Hold (identifiers_in x)) same (fields_hold name fs few))
  form_holds name (form.Simple s) sh few sound e = (let same : shape_by s.kind s.codes s ≡ sh = cc in subst (λ x. Hold (identifiers_in x)) same (simple_holds s.kind s.codes s (sound s refl).few))
  form_holds name (form.Money c s) sh few sound e = (let same : shape.Money (name c) (step_of s) ≡ sh = cc in subst (λ x. Hold (identifiers_in x)) same amount)
  form_holds name form.Envelope sh few sound e = (let same : shape.Fragment ≡ sh = cc in subst (λ x. Hold (identifiers_in x)) same none)
  form_holds name form.LeftOut sh few sound e = absurd cc
  form_holds name form.Missing sh few sound e = absurd cc

-- ---- the types of the module

-- what holds of the shape of each type of the tables holds of those of the module
shapes_hold : (Holds : AsnShape → Type 0) (T : Tables) → ((p : ℕ) (sh : AsnShape) → shape_of (asn_name_of T) (types_of T p) ≡ Some sh → Holds sh)
    → (ts : List Numbered) (ns : List (List ℕ)) → AllByRecursion (λ (t : AsnType). Holds t.shape) (types_with T ts ns)
shapes_hold Holds T each [] ns = tt
shapes_hold Holds T each (t ∷ ts) [] = tt
shapes_hold Holds T each (t ∷ ts) (n ∷ ns) = by (shape_of (asn_name_of T) (types_of T t.number)) refl (shapes_hold Holds T each ts ns)
  where
    by : (o : Option AsnShape) → shape_of (asn_name_of T) (types_of T t.number) ≡ o → AllByRecursion (λ (t : AsnType). Holds t.shape) (types_with T ts ns)
        → AllByRecursion (λ (t : AsnType). Holds t.shape) (with_shape n o (types_with T ts ns))
    by None e rest = rest
    by (Some sh) e rest = (each t.number sh e, rest)

-- and what holds of the names that are given to types holds of those of the module
names_hold : (Holds : List ℕ → Type 0) (T : Tables) (ts : List Numbered) (ns : List (List ℕ)) → AllByRecursion Holds ns → AllByRecursion (λ (t : AsnType). Holds t.name) (types_with T ts ns)
names_hold Holds T [] ns all = tt
names_hold Holds T (t ∷ ts) [] all = tt
names_hold Holds T (t ∷ ts) (n ∷ ns) (first, all) = by (shape_of (asn_name_of T) (types_of T t.number)) (names_hold Holds T ts ns all)
  where
    by : (o : Option AsnShape) → AllByRecursion (λ (t : AsnType). Holds t.name) (types_with T ts ns) → AllByRecursion (λ (t : AsnType). Holds t.name) (with_shape n o (types_with T ts ns))
    by None rest = rest
    by (Some sh) rest = (first, rest)

type_names_form : (ts : List Numbered) → AllByRecursion IsReference (map type_name_of ts)
type_names_form [] = tt
type_names_form (t ∷ ts) = (type_name_form t.name, type_names_form ts)

-- the names of types that have a shape are among those that are given
types_new : (T : Tables) (taken less : List (List ℕ)) (ts : List Numbered) (ns : List (List ℕ)) → ((m : List ℕ) → is_name_among taken m ≡ false → is_name_among less m ≡ false)
    → AreNew taken ns → AreNew less (names_of_types (types_with T ts ns))
types_new T taken less [] ns sub new = tt
types_new T taken less (t ∷ ts) [] sub new = tt
types_new T taken less (t ∷ ts) (n ∷ ns) sub (first, new) =
    by (shape_of (asn_name_of T) (types_of T t.number)) (types_new T (n ∷ taken) less ts ns (λ m e. sub m (or_parts (bytes_eq m n) (is_name_among taken m) e).1) new) (types_new T (n ∷ taken) (n ∷ less) ts ns both new)
  where
    both : (m : List ℕ) → is_name_among (n ∷ taken) m ≡ false → is_name_among (n ∷ less) m ≡ false
    both m e = (let parts = or_parts (bytes_eq m n) (is_name_among taken m) e in rw parts.0 (sub m parts.1))

    by : (o : Option AsnShape) → AreNew less (names_of_types (types_with T ts ns)) → AreNew (n ∷ less) (names_of_types (types_with T ts ns)) → AreNew less (names_of_types (with_shape n o (types_with T ts ns)))
    by None without among = without
    by (Some sh) without among = (sub n first, among)

-- ---- the laws

module _ (T : Tables) (forms : AreSound (types_of T)) (sound : IsSoundAsn T) where
  few_types : 0 + length (map type_name_of (by_name T)) < 2 ^ 64
  few_types = (let e = length-map (by_name T) type_name_of in let k = sorted_length 0 T.types in let lt = sound.few in omega arith)

  simple_sound : (p : ℕ) (s : Simple) → types_of T p ≡ form.Simple s → IsSoundSimpleType s
  simple_sound p s e = subst (λ (F : Form ℕ Simple). IsSoundType MayBeReferredTo (types_of T) F) e (sound.forms p)

  pub distinct_names : HasDistinctNames (module_of T)
  unfolding module_of
  distinct_names = record {
    types = new_distinct [] (names_of_types (types_with T (by_name T) (names_given T))) (types_new T [] [] (by_name T) (names_given T) (λ m e. e) (given_are_new [] (map type_name_of (by_name T)) few_types));
    identifiers = shapes_hold (λ sh. AreDistinct (identifiers_in sh)) T
        (λ p sh e. form_holds AreDistinct none_distinct amount_distinct (λ names few all. given_distinct names few) (asn_name_of T) (types_of T p) sh (forms p).short (simple_sound p) e)
        (by_name T) (names_given T);
  }

  pub name_forms : HasNameForms (module_of T)
  unfolding module_of
  name_forms = record {
    name = type_name_form T.id;
    types = names_hold IsReference T (by_name T) (names_given T) (given_hold IsReference candidate_reference [] (map type_name_of (by_name T)) few_types (type_names_form (by_name T)));
    identifiers = shapes_hold (λ sh. AllByRecursion IsIdentifier (identifiers_in sh)) T
        (λ p sh e. form_holds (AllByRecursion IsIdentifier) tt amount_form (λ names few all. given_hold IsIdentifier candidate_identifier [] names (omega (arith, few)) all) (asn_name_of T) (types_of T p) sh (forms p).short (simple_sound p) e)
        (by_name T) (names_given T);
  }
