use Rattle.std.proofs.Common.{◌≡◌, ◌≤◌, length, map, Some, sym, ap, subst, ◌∙◌, IfOk}
use Rattle.std.proofs.lemmas.Option.{same_Some}
use Rattle.reference_check.specs.Graph.{find_message}
use Rattle.message_model.specs.Compiled.{places_of}
use Rattle.message_model.specs.inner.Numbers.{AreNumbers, AreTypesOf, AreCompilable, NamePlaces, ids_at}
use Rattle.message_model.specs.Views.{type_entry}
use Rattle.message_model.proofs.Compilable.{all_compilable, blocks_name}
use Rattle.message_model.proofs.SoundTables.{few_places}
use Rattle.message_model.proofs.TypeLists.{first_two}
use Rattle.message_model.proofs.object_types.all_types.Goals as goal

pub number_places-requires-clause-few : goal.number_places-requires-clause-few
number_places-requires-clause-few c =
    subst (λ ps. length ps ≤ 65536) (sym c.as_slice-places.ensures) (few_places c.args.repository.now c.requires.0 c.requires.2 c.message_at.ensures.whole c.args.reach.now c.requires.1)

pub with_objects-requires : goal.with_objects-requires
with_objects-requires c =
    subst (λ ps. AreCompilable c.args.repository.now ps) (sym c.as_slice-places.ensures)
    (all_compilable c.args.repository.now c.requires.0 c.requires.2 c.message_at.ensures.whole c.args.reach.now c.requires.1)

pub returns-clause-types : goal.returns-clause-types
returns-clause-types c m has ready =
    let R = c.args.repository.now in
    let places = c.as_slice-places.result.now in
    let same = same_Some c.in-Some.definition.now has.definition (c.in-Some.ensures.message ∙ has.message_is) in
    let found : find_message m c.args.repository.now.messages ≡ Some c.in-Some.definition.now = has.first ∙ ap Some (sym same) in
    let numbered : AreNumbers c.as_slice-places.result.now c.deref.result.now = subst (λ ns. AreNumbers c.as_slice-places.result.now ns) (sym c.deref.ensures.value) c.in_ok-numbers.ensures in
    let are : AreNumbers c.as_slice-places.result.now c.as_slice.result.now = subst (λ ns. AreNumbers c.as_slice-places.result.now ns) (sym c.as_slice.ensures.value) c.in_ok-numbers.ensures in
    let names : NamePlaces c.args.repository.now.objects c.as_slice-places.result.now c.in-Some.definition.now.blocks =
    subst (λ ps. NamePlaces c.args.repository.now.objects ps c.in-Some.definition.now.blocks) (sym c.as_slice-places.ensures)
    (blocks_name c.args.repository.now m ready c.message_at.ensures.whole c.args.reach.now has c.in-Some.definition.now found) in
    let two = first_two R m places c.in_ok-types.types.items c.push.new.self.items c.push-2.new.self.items c.in_ok-document_type.field-0 c.in_ok-message_type.field-0
    c.in_ok-types.ensures.items c.in_ok-push.ensures.items c.in_ok-push-2.ensures.items
    (c.in_ok-document_type.ensures R m places found) (c.in_ok-message_type.ensures m places found numbered names) in
    subst (λ ps. IfOk c.with_objects.result (λ ts. AreTypesOf c.args.repository.now m ps (places_of (ids_at c.args.repository.now.objects ps)) (map type_entry ts.items)))
    c.as_slice-places.ensures (c.with_objects.ensures m are two)
