-- Each type of a message stands in its schema under its name.
use Rattle.std.proofs.Common.{◌≡◌, ◌≢◌, ◌⊎◌, ℕ, inl, inr, [], map, Option, Some, None, refl, sym, ap, subst, ◌∙◌, arith}
use Rattle.std.specs.Prelude.{slice_get, Contains}
use Rattle.std.proofs.lemmas.Option.{slice_get_within}
use Rattle.data_types.specs.declared.kind.Kind.TheVariants as kind
use Rattle.facets.specs.declared.simple.Simple.{Simple}
use Rattle.reference_check.specs.Forms.{Form}
use Rattle.reference_check.specs.Forms as form
use Rattle.message_model.specs.Sound.{AreSound, HasNumber}
use Rattle.message_model.specs.Tables.{Tables, TypeEntry, types_of, form_or_missing}
use Rattle.xsd_model.specs.declared.schema.SchemaShape.TheVariants as shape
use Rattle.xsd_model.specs.declared.schema.SchemaType.{SchemaType}
use Rattle.xsd_model.specs.StepsOf.{steps_of}
use Rattle.xsd_model.specs.Trees.{find_type}
use Rattle.xsd_model.specs.SchemaOf.{schema_of, sorted_types, all_types, schema_name_of, name_or_none, base_name, part_of, types_by, types_of_entry, HasSoundNames, HasSoundFacets}
use Rattle.xsd_model.proofs.Named.{find_sorted, found, none_found, in_flat}
use Rattle.xsd_model.proofs.Admitted.{Agrees, shape_by}

-- a type of an entry stands in the schema
stands : (T : Tables) (p : ℕ) (entry : TypeEntry) (F : Form ℕ Simple) (a : SchemaType) → HasSoundNames T → slice_get T.types p ≡ Some entry → entry.form ≡ F
    → Contains (types_by (schema_name_of T) entry.name F) a → find_type a.name (sorted_types (all_types T)) ≡ Some a.shape
stands T p entry F a sound e is i =
    find_sorted (all_types T) a.name sound.distinct
    ∙ found (all_types T) a sound.distinct (in_flat (types_of_entry T) T.types p entry a e (subst (λ f. Contains (types_by (schema_name_of T) entry.name f) a) (sym is) i))

typed_form : (T : Tables) (p : ℕ) (entry : TypeEntry) (F : Form ℕ Simple) → HasSoundNames T → slice_get T.types p ≡ Some entry → entry.form ≡ F → HasSoundFacets F
    → find_type entry.name (sorted_types (all_types T)) ≡ shape_by (schema_name_of T) (base_name entry.name) F
typed_form T p entry (form.Sequence slots) sound e is f =
    stands T p entry (form.Sequence slots) (record { name = entry.name; shape = shape.Sequence (map (part_of (schema_name_of T)) slots) }) sound e is (0, omega arith, refl)
typed_form T p entry (form.Choice slots) sound e is f =
    stands T p entry (form.Choice slots) (record { name = entry.name; shape = shape.Choice (map (part_of (schema_name_of T)) slots) }) sound e is (0, omega arith, refl)
typed_form T p entry (form.Simple simple) sound e is f =
    stands T p entry (form.Simple simple) (record { name = entry.name; shape = shape.Simple (steps_of simple) }) sound e is (0, omega arith, refl)
typed_form T p entry (form.Money code number) sound e is f =
    stands T p entry (form.Money code number) (record { name = entry.name; shape = shape.Money (base_name entry.name) (schema_name_of T code) }) sound e is (1, omega arith, refl)
typed_form T p entry form.Envelope sound e is f = stands T p entry form.Envelope (record { name = entry.name; shape = shape.Any }) sound e is (0, omega arith, refl)
typed_form T p entry form.LeftOut sound e is f = absurd f
typed_form T p entry form.Missing sound e is f = absurd f

entry_of : (T : Tables) (p : ℕ) → ((entry : TypeEntry) × (slice_get T.types p ≡ Some entry)) ⊎ (slice_get T.types p ≡ None)
entry_of T p = by (slice_get T.types p) refl
  where
    by : (o : Option TypeEntry) → slice_get T.types p ≡ o → ((entry : TypeEntry) × (slice_get T.types p ≡ Some entry)) ⊎ (slice_get T.types p ≡ None)
    by None e = inr e
    by (Some entry) e = inl (entry, e)

sound_facets : (T : Tables) (p : ℕ) (entry : TypeEntry) → HasSoundNames T → slice_get T.types p ≡ Some entry → HasSoundFacets entry.form
sound_facets T p entry sound e = subst (λ o. HasSoundFacets (form_or_missing o)) e (sound.facets p (slice_get_within T.types p entry e))

typed : (T : Tables) (p : ℕ) → HasSoundNames T → find_type (schema_name_of T p) (sorted_types (all_types T)) ≡ shape_by (schema_name_of T) (base_name (schema_name_of T p)) (types_of T p)
typed T p sound = elim (entry_of T p) [
  | inl (entry, e) ↦
      let name : schema_name_of T p ≡ entry.name = ap name_or_none e in
      let own : types_of T p ≡ entry.form = ap form_or_missing e in
      ap (λ n. find_type n (sorted_types (all_types T))) name ∙ (typed_form T p entry entry.form sound e refl (sound_facets T p entry sound e)
      ∙ (ap (λ n. shape_by (schema_name_of T) (base_name n) entry.form) (sym name) ∙ ap (λ f. shape_by (schema_name_of T) (base_name (schema_name_of T p)) f) (sym own)))
  | inr none ↦
      let name : schema_name_of T p ≡ [] = ap name_or_none none in
      let own : types_of T p ≡ form.Missing = ap form_or_missing none in
      ap (λ n. find_type n (sorted_types (all_types T))) name
      ∙ (find_sorted (all_types T) [] sound.distinct ∙ none_found (all_types T) sound.some
      ∙ ap (λ f. shape_by (schema_name_of T) (base_name (schema_name_of T p)) f) (sym own))
]

based : (T : Tables) (p code : ℕ) (number : Simple) → HasSoundNames T → types_of T p ≡ form.Money code number → find_type (base_name (schema_name_of T p)) (sorted_types (all_types T)) ≡ Some (shape.Simple (steps_of number))
based T p code number sound is = elim (entry_of T p) [
  | inl (entry, e) ↦
      let name : schema_name_of T p ≡ entry.name = ap name_or_none e in
      let own : entry.form ≡ form.Money code number = sym (ap form_or_missing e) ∙ is in
      ap (λ n. find_type (base_name n) (sorted_types (all_types T))) name
      ∙ stands T p entry (form.Money code number) (record { name = base_name entry.name; shape = shape.Simple (steps_of number) }) sound e own (0, omega arith, refl)
  | inr none ↦ (let clash : form.Missing ≡ form.Money code number = sym (ap form_or_missing none) ∙ is in absurd cc)
]

facets_at : (T : Tables) (p : ℕ) (F : Form ℕ Simple) → HasSoundNames T → types_of T p ≡ F → (F ≢ form.Missing) → HasSoundFacets F
facets_at T p F sound is other = elim (entry_of T p) [
  | inl (entry, e) ↦ (let own : entry.form ≡ F = sym (ap form_or_missing e) ∙ is in subst HasSoundFacets own (sound_facets T p entry sound e))
  | inr none ↦ absurd (other (sym is ∙ ap form_or_missing none))
]

pub agrees : (T : Tables) → HasSoundNames T → AreSound (types_of T) → Agrees (types_of T) (schema_name_of T) (λ p. base_name (schema_name_of T p)) (schema_of T)
agrees T sound forms = record {
  typed = λ p. typed T p sound;
  based = λ p code number is. based T p code number sound is;
  simple = λ p simple is. facets_at T p (form.Simple simple) sound is (λ clash. absurd cc);
  number = λ p code number is. (facets_at T p (form.Money code number) sound is (λ clash. absurd cc), (let n = (forms p).number in by p (types_of T p) code number is n));
}
  where
    by : (p : ℕ) (F : Form ℕ Simple) (code : ℕ) (number : Simple) → F ≡ form.Money code number → HasNumber F → number.kind ≡ kind.Decimal
    by p F code number is n = subst (HasNumber) is n
