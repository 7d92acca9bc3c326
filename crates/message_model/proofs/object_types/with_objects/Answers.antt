use Rattle.std.proofs.Common.{◌≡◌, ℕ, ◌+◌, ◌<◌, List, length, map, take, get_or, Some, sym, subst, ◌∙◌}
use Rattle.std.specs.Prelude.{slice_get, Contains}
use Rattle.std.proofs.lemmas.Option.{get_or_from_slice_get, slice_get_within}
use Rattle.std.proofs.lemmas.List.Elements.{Contains-get_or}
use Rattle.std.proofs.lemmas.List.{take_all}
use Rattle.repo_objects.specs.Objects.{HasObjectTexts}
use Rattle.repo_objects.specs.Repository.{DictionaryEntry, Contents, IsRepository, HasEntryTexts}
use Rattle.message_model.specs.Compiled.{places_of}
use Rattle.message_model.specs.inner.Numbers.{IsCompilable, AreCompilable, AreTypesOf, ids_at}
use Rattle.message_model.specs.Views.{type_entry}
use Rattle.message_model.specs.declared.model.TypeInfo.{TypeInfo}
use Rattle.message_model.proofs.Places.{finds_at}
use Rattle.message_model.proofs.TypeLists.{types_more}
use Rattle.message_model.proofs.object_types.with_objects.Goals as goal

-- the object at a place has texts of XML
texts_at : (R : Contents) (at : ℕ) (e : DictionaryEntry) → IsRepository R → slice_get R.objects at ≡ Some e → HasObjectTexts e.object
texts_at R at e whole there = (subst HasEntryTexts (get_or_from_slice_get R.objects at e e there) (whole.object_texts at e (slice_get_within R.objects at e there))).object

-- the object at one of the places can be compiled
compilable_at : (R : Contents) (places : List ℕ) (i : ℕ) (e : DictionaryEntry) → AreCompilable R places → i < length places → Some e ≡ slice_get R.objects (get_or places i 0) → IsCompilable R places e.object
compilable_at R places i e can inside at = can.each (get_or places i 0) e (Contains-get_or places i 0 inside) (sym at)

pub object_type-requires-clause-facets : goal.object_type-requires-clause-facets
object_type-requires-clause-facets c =
    (compilable_at c.args.repository.now c.args.places.now c.loop-place.place-index (record { id = c.in-Some.field-0-0.now; object = c.in-Some.object.now }) c.requires c.loop-place-test.true c.in-Some.ensures.entry).facets

pub object_type-requires-clause-text : goal.object_type-requires-clause-text
object_type-requires-clause-text c =
    (texts_at c.args.repository.now (get_or c.args.places.now c.loop-place.place-index 0) (record { id = c.in-Some.field-0-0.now; object = c.in-Some.object.now }) c.object_at.ensures.whole (sym c.in-Some.ensures.entry)).pattern

pub object_type-requires-clause-kind : goal.object_type-requires-clause-kind
object_type-requires-clause-kind c =
    (compilable_at c.args.repository.now c.args.places.now c.loop-place.place-index (record { id = c.in-Some.field-0-0.now; object = c.in-Some.object.now }) c.requires c.loop-place-test.true c.in-Some.ensures.entry).kind

pub loop-place-preserved : goal.loop-place-preserved
loop-place-preserved c = record {
  stays = c.in_ok-object_type.ensures.stays ∙ c.loop-place.invariant.stays;
  types = λ m are first.
      let k = get_or c.args.places.now c.loop-place.place-index 0 in
      let e : DictionaryEntry = record { id = c.in-Some.field-0-0.now; object = c.in-Some.object.now } in
      let inside : Contains c.args.places.now (get_or c.args.places.now c.loop-place.place-index 0) = Contains-get_or c.args.places.now c.loop-place.place-index 0 c.loop-place-test.true in
      let at : slice_get c.args.repository.now.objects k ≡ Some e = sym c.in-Some.ensures.entry in
      let found = finds_at c.args.repository.now c.object_at.ensures.whole k e at in
      let is = c.in_ok-object_type.ensures.typed m e.id c.args.places.now found are (c.requires.each k e inside at) in
      let more = types_more c.args.repository.now m c.args.places.now c.loop-place.place-index 0 e c.loop-place.types.items c.in_ok-object_type.field-0 c.loop-place-test.true at
      (c.loop-place.invariant.types m are first) is in
      subst (λ (ts : List TypeInfo). AreTypesOf c.args.repository.now m c.args.places.now (places_of (ids_at c.args.repository.now.objects (take (c.loop-place.place-index + 1) c.args.places.now))) (map type_entry ts))
      (sym c.in_ok-push.ensures.items) more;
}

pub returns : goal.returns
returns c m are first =
    subst (λ ps. AreTypesOf c.args.repository.now m c.args.places.now (places_of (ids_at c.args.repository.now.objects ps)) (map type_entry c.loop-place.types.items))
    (take_all c.loop-place.place-index c.args.places.now c.loop-place-test.false) (c.loop-place.invariant.types m are first)
