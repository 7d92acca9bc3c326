-- What a loading has read of one more element.
use Rattle.std.proofs.Common.{◌≡◌, ℕ, true, false, List, [], ◌∷◌, ◌++◌, Option, Some, None, Bool, if◌then◌else◌, is_some, true≢false, refl, sym, ap, ◌∙◌, subst}
use Rattle.lexical_core.specs.Tree.{Entry as Attribute}
use Rattle.lexical_core.specs.Names.{attribute_value}
use Rattle.repo_objects.specs.declared.objects.CodeDef.{CodeDef}
use Rattle.repo_objects.specs.declared.objects.ElementDef.{ElementDef}
use Rattle.repo_objects.specs.Repository.{DictionaryEntry}
use Rattle.repo_objects.specs.declared.objects.ObjectKind.{ObjectKind}
use Rattle.repo_objects.specs.Repository.{HasId}
use Rattle.repo_loader.specs.declared.loading.OpenEntry.{OpenEntry}
use Rattle.repo_loader.specs.declared.loading.Loading.{Loading}
use Rattle.repo_loader.specs.Selected.{FileTag}
use Rattle.repo_loader.specs.File.{is_entry, kind_at, objects, own_elements, own_codes}
use Rattle.repo_loader.specs.File
use Rattle.repo_loader.specs.inner.FileSteps.{with_last, with_parts}
use Rattle.repo_loader.specs.inner.LoadingSteps.{entry_is, entry_list, HasObjects}
use Rattle.repo_loader.specs.declared.part.Part.TheVariants as Part
use Rattle.repo_loader.specs.declared.stop.Stop.{Stop}
use Rattle.repo_loader.specs.FileNames.{id_name}
use Rattle.repo_loader.specs.inner.LoadingSteps.{HasIdIn}
use Rattle.repo_loader.specs.inner.Stops.{IsLeastTagRule, TellsFacets, TellsStop}
use Rattle.repo_loader.proofs.EntryRules.{IsFirst, least_twice, least_number}
use Rattle.repo_loader.proofs.Steps.{objects_snoc}

-- the last of a list that ends so
last_changed : (f : DictionaryEntry → DictionaryEntry) (xs : List DictionaryEntry) (x : DictionaryEntry) → with_last f (xs ++ x ∷ []) ≡ xs ++ f x ∷ []
last_changed f [] x = refl
last_changed f (y ∷ []) x = refl
last_changed f (y ∷ (z ∷ xs)) x = ap (λ l. y ∷ l) (last_changed f (z ∷ xs) x)

-- the open entry with what a tag gives it
abbrev pub with_given : List ElementDef → List CodeDef → Option OpenEntry → Option OpenEntry
with_given es cs None = None
with_given es cs (Some o) = Some (record { id = o.id; object = record o.object { elements = o.object.elements ++ es; codes = o.object.codes ++ cs } })

abbrev pub with_tag : FileTag → Option OpenEntry → Option OpenEntry
with_tag t o = with_given (own_elements t) (own_codes t) o

-- a tag that is no entry's changes the open entry alone
pub other_tag : (old new : Loading) (tags : List FileTag) (t : FileTag) → is_entry t.part ≡ false → HasObjects old tags → new.repository.objects ≡ old.repository.objects
    → new.entry ≡ with_tag t old.entry → HasObjects new (tags ++ t ∷ [])
other_tag old new tags t other h same entry = by old.entry refl
  where
    changed : objects (tags ++ t ∷ []) ≡ with_last (with_parts t) (objects tags)
    changed = objects_snoc t tags ∙ ap (λ (b : Bool). if b then objects tags ++ File.entry (kind_at t.part) t.attributes [] ∷ [] else with_last (with_parts t) (objects tags)) other

    by : (e : Option OpenEntry) → old.entry ≡ e → HasObjects new (tags ++ t ∷ [])
    by None n =
        let none : objects tags ≡ [] = h.objects_are ∙ (λ i. h.none_before n i ++ entry_list (n i)) in
        let objects_none : new.repository.objects ≡ [] = same ∙ h.none_before n in
        let entry_none : new.entry ≡ None = entry ∙ ap (with_tag t) n in
        record {
          objects_are = changed ∙ ap (with_last (with_parts t)) none ∙ sym (λ i. objects_none i ++ entry_list (entry_none i));
          none_before = λ e. objects_none;
        }
    by (Some o) n =
        let some : objects tags ≡ old.repository.objects ++ entry_is o ∷ [] = h.objects_are ∙ ap (λ e. old.repository.objects ++ entry_list e) n in
        let entry_some : new.entry ≡ with_tag t (Some o) = entry ∙ ap (with_tag t) n in
        record {
          objects_are = changed ∙ ap (with_last (with_parts t)) some ∙ last_changed (with_parts t) old.repository.objects (entry_is o)
              ∙ sym (λ i. same i ++ entry_list (entry_some i));
          none_before = λ e. absurd (true≢false (ap is_some (sym entry_some ∙ e)));
        }

-- an entry's tag opens a new entry, behind the one before
pub entry_tag : (old new : Loading) (tags : List FileTag) (t : FileTag) (o : OpenEntry) → is_entry t.part ≡ true → HasObjects old tags
    → new.repository.objects ≡ old.repository.objects ++ entry_list old.entry → new.entry ≡ Some o → entry_is o ≡ File.entry (kind_at t.part) t.attributes []
    → HasObjects new (tags ++ t ∷ [])
entry_tag old new tags t o is h closed opened same = record {
  objects_are =
      objects_snoc t tags
      ∙ ap (λ (b : Bool). if b then objects tags ++ File.entry (kind_at t.part) t.attributes [] ∷ [] else with_last (with_parts t) (objects tags)) is
      ∙ (λ i. h.objects_are i ++ sym same i ∷ [])
      ∙ sym (λ i. closed i ++ entry_list (opened i));
  none_before = λ e. absurd (true≢false (ap is_some (sym opened ∙ e)));
}

-- ---- an entry's tag

module _ (tags : List FileTag) (kind : ObjectKind) (attributes : List Attribute) (here : List DictionaryEntry) (same : objects tags ≡ here) where
  -- its id is there already
  pub id_twice : HasIdIn here (attribute_value id_name attributes) → IsLeastTagRule tags (record { part = Part.Entry kind; attributes = attributes }) 3
  id_twice h = by (attribute_value id_name attributes) refl h
    where
      by : (o : Option (List ℕ)) → attribute_value id_name attributes ≡ o → HasIdIn here o → IsLeastTagRule tags (record { part = Part.Entry kind; attributes = attributes }) 3
      by None e h = absurd h
      by (Some id) e h = least_twice tags kind attributes id e (subst (λ os. HasId os id) (sym same) h)

  -- or it is new
  pub id_first : (HasIdIn here (attribute_value id_name attributes) → ⊥) → IsFirst tags kind attributes
  id_first none id e h = none (subst (HasIdIn here) (sym e) (subst (λ os. HasId os id) same h))

  -- its numbers are none, or there is no memory
  pub tells_facets : (stop : Stop) → (HasIdIn here (attribute_value id_name attributes) → ⊥) → TellsFacets kind attributes stop → TellsStop tags (record { part = Part.Entry kind; attributes = attributes }) stop
  tells_facets (Stop.Rule n) none (e, h) =
      subst (IsLeastTagRule tags (record { part = Part.Entry kind; attributes = attributes })) (sym e) (least_number tags kind attributes (id_first none) h)
  tells_facets Stop.Memory none h = tt
