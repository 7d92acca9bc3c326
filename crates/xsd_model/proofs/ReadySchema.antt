-- The schema of a message that breaks no rule admits exactly the trees that write a value which the message admits.
use Rattle.std.proofs.Common.{◌≡◌, ◌↔◌, ℕ, ◌<◌, ◌++◌, List, [], ◌∷◌, length, map, flat_map, get_or, Some, sym, ap, subst, ◌∙◌}
use Rattle.std.specs.Prelude.{slice_get, codes}
use Rattle.std.specs.List.{AllByRecursion, IsDistinct}
use Rattle.std.specs.Str.{bytes_eq}
use Rattle.std.proofs.lemmas.List.{length-map}
use Rattle.std.proofs.lemmas.Option.{slice_get-get_or}
use Rattle.lexical_core.specs.Tree.{Tree}
use Rattle.data_types.specs.Value.{Value}
use Rattle.facets.specs.declared.simple.Simple.{Simple}
use Rattle.repo_objects.specs.Repository.{Contents}
use Rattle.reference_check.specs.Forms.{Form}
use Rattle.reference_check.specs.Graph.{Place, document, nowhere}
use Rattle.message_model.specs.Admits.{AdmitsAs}
use Rattle.message_model.specs.Writes.{WritesAs}
use Rattle.message_model.specs.Ready.{IsReady}
use Rattle.message_model.specs.Tables.{Tables, TypeEntry, types_of, namespace_front}
use Rattle.message_model.specs.Compiled.{IsReachedList, Compiles, types, places_of, place_of, place_or_nowhere, place_name}
use Rattle.message_model.proofs.SoundTables.{tables_sound}
use Rattle.xsd_model.specs.Trees.{IsValid}
use Rattle.xsd_model.specs.SchemaOf.{schema_of, names, all_types, schema_name_of, HasSoundNames, HasSoundFacets}
use Rattle.xsd_model.proofs.ReadyFacets.{facets_from, facets_at}
use Rattle.xsd_model.proofs.ReadyNames.{place_names, names_listed, listed, names_distinct, names_some}
use Rattle.xsd_model.proofs.SchemaLaw.{same_trees_of}

module _ (R : Contents) (m : List ℕ) (ready : IsReady R m) (ids : List (List ℕ)) (list : IsReachedList R m ids) (T : Tables) (made : Compiles R m ids T) where
  root : (ts : List TypeEntry) → map (λ (t : TypeEntry). t.name) ts ≡ map (place_name R m) (places_of ids) → schema_name_of (record { id = T.id; types = ts }) 0 ≡ codes "Document"
  root [] e = absurd cc
  root (t ∷ ts) e = cc

  all_names : names (all_types T) ≡ flat_map (place_names R m) (places_of ids)
  all_names = names_listed R m T (place_of ids) T.types (places_of ids) made.names made.forms

  long : length T.types ≡ length (places_of ids)
  long = sym (length-map T.types (λ (t : TypeEntry). t.name)) ∙ (ap length made.names ∙ length-map (places_of ids) (place_name R m))

  facets : (number : ℕ) → number < length T.types → HasSoundFacets (types_of T number)
  facets number below =
      let p : Place = get_or (places_of ids) number nowhere in
      let at : slice_get (places_of ids) number ≡ Some p = slice_get-get_or (places_of ids) number nowhere (subst (λ n. number < n) long below) in
      let sound : HasSoundFacets (types R m p) = facets_at R m ready p (listed R m ready ids list number p at) in
      let same : types R m (place_of ids number) ≡ types R m p = ap (λ o. types R m (place_or_nowhere o)) at in
      facets_from (place_of ids) (types_of T number) (subst (λ (F : Form Place Simple). HasSoundFacets F) (sym (made.forms number ∙ same)) sound)

  pub sound_names : HasSoundNames T
  sound_names = record {
    root = root T.types made.names;
    distinct = subst (λ (xs : List (List ℕ)). IsDistinct bytes_eq xs) (sym all_names) (names_distinct R m ready ids list);
    some = subst (λ (xs : List (List ℕ)). AllByRecursion (λ name. 0 < length name) xs) (sym all_names) (names_some R m ready ids list);
    facets = facets;
  }

-- the trees that are valid are those that write a value of the message
module _ (R : Contents) (m : List ℕ) (ids : List (List ℕ)) (T : Tables) (t : Tree) (ready : IsReady R m) (list : IsReachedList R m ids) (made : Compiles R m ids T) where
  pub same_instances : IsValid (schema_of T) t ↔ ((v : Value) × AdmitsAs (types R m) (types R m document) v × WritesAs (types R m) (namespace_front ++ m) (types R m document) v t)
  same_instances =
      subst (λ (id : List ℕ). IsValid (schema_of T) t ↔ ((v : Value) × AdmitsAs (types R m) (types R m document) v × WritesAs (types R m) (namespace_front ++ id) (types R m document) v t)) made.id
      (same_trees_of T t (sound_names R m ready ids list T made) (tables_sound R m ready ids list T made) Place (types R m) (place_of ids) (λ number. sym (made.forms number)))
