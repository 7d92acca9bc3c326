-- Lists of types that grow at their end.
use Rattle.std.proofs.Common.{◌≡◌, ℕ, ◌+◌, ◌<◌, List, [], ◌∷◌, ◌++◌, length, map, take, get_or, Some, refl, sym, ap, subst, ◌∙◌}
use Rattle.std.specs.Prelude.{slice_get}
use Rattle.std.proofs.lemmas.List.{take_more, map-append}
use Rattle.repo_objects.specs.Repository.{DictionaryEntry, Contents, entry_id}
use Rattle.reference_check.specs.Graph.{Place, document, message, entry}
use Rattle.message_model.specs.Tables.{TypeEntry}
use Rattle.message_model.specs.Views.{type_entry}
use Rattle.message_model.specs.declared.model.TypeInfo.{TypeInfo}
use Rattle.message_model.specs.Compiled.{places_of}
use Rattle.message_model.specs.inner.Numbers.{IsTypeOf, AreTypesOf, ids_at}

ids_push : (es : List DictionaryEntry) (places : List ℕ) (k : ℕ) → ids_at es (places ++ k ∷ []) ≡ ids_at es places ++ entry_id (slice_get es k) ∷ []
ids_push es [] k = refl
ids_push es (p ∷ places) k = ap (λ xs. entry_id (slice_get es p) ∷ xs) (ids_push es places k)

module _ (R : Contents) (m places : List ℕ) where
  types_push : (ps : List Place) (ts : List TypeEntry) (p : Place) (t : TypeEntry) → AreTypesOf R m places ps ts → IsTypeOf R m places p t → AreTypesOf R m places (ps ++ p ∷ []) (ts ++ t ∷ [])
  types_push [] [] p t are is = (is, tt)
  types_push [] (u ∷ ts) p t are is = absurd are
  types_push (q ∷ ps) [] p t are is = absurd are
  types_push (q ∷ ps) (u ∷ ts) p t are is = (are.0, types_push ps ts p t are.1 is)

  -- one more object
  pub types_more : (i d : ℕ) (e : DictionaryEntry) (ts : List TypeInfo) (t : TypeInfo) → i < length places → slice_get R.objects (get_or places i d) ≡ Some e
      → AreTypesOf R m places (places_of (ids_at R.objects (take i places))) (map type_entry ts) → IsTypeOf R m places (entry e.id) (type_entry t)
      → AreTypesOf R m places (places_of (ids_at R.objects (take (i + 1) places))) (map type_entry (ts ++ t ∷ []))
  types_more i d e ts t lt at are is =
      let ids : ids_at R.objects (take (i + 1) places) ≡ ids_at R.objects (take i places) ++ e.id ∷ [] =
      ap (ids_at R.objects) (take_more places i d lt) ∙ (ids_push R.objects (take i places) (get_or places i d) ∙ ap (λ o. ids_at R.objects (take i places) ++ entry_id o ∷ []) at) in
      let more : places_of (ids_at R.objects (take (i + 1) places)) ≡ places_of (ids_at R.objects (take i places)) ++ entry e.id ∷ [] =
      ap places_of ids ∙ ap (λ ps. places_of [] ++ ps) (map-append entry (ids_at R.objects (take i places)) (e.id ∷ [])) in
      let whole = types_push (places_of (ids_at R.objects (take i places))) (map type_entry ts) (entry e.id) (type_entry t) are is in
      rw (more, map-append type_entry ts (t ∷ [])) whole

  -- the first two
  pub first_two : (none one two : List TypeInfo) (d t : TypeInfo) → none ≡ [] → one ≡ none ++ d ∷ [] → two ≡ one ++ t ∷ []
      → IsTypeOf R m places document (type_entry d) → IsTypeOf R m places message (type_entry t) → AreTypesOf R m places (document ∷ (message ∷ [])) (map type_entry two)
  first_two none one two d t is_none is_one is_two first second =
      let whole : two ≡ d ∷ (t ∷ []) = is_two ∙ ap (λ ts. ts ++ t ∷ []) (is_one ∙ ap (λ ts. ts ++ d ∷ []) is_none) in
      subst (λ (ts : List TypeInfo). AreTypesOf R m places (document ∷ (message ∷ [])) (map type_entry ts)) (sym whole) (first, (second, tt))
