-- The types of places by their layouts.
use Rattle.std.proofs.Common.{◌≡◌, ℕ, List, [], ◌∷◌, map, Some, refl, sym, ap, subst, ◌∙◌}
use Rattle.std.specs.Prelude.{Contains}
use Rattle.repo_objects.specs.declared.objects.ElementDef.{ElementDef}
use Rattle.repo_objects.specs.declared.objects.MessageDef.{MessageDef}
use Rattle.repo_objects.specs.declared.objects.Object.{Object}
use Rattle.repo_objects.specs.declared.objects.ObjectKind.{ObjectKind}
use Rattle.repo_objects.specs.declared.objects.ObjectKind.TheVariants as object
use Rattle.repo_objects.specs.Repository.{Contents}
use Rattle.reference_check.specs.Forms.{Slot, Sequence, Choice, slot_to, form_to}
use Rattle.reference_check.specs.Graph.{Place, message, entry, find_entry, find_message, slot_of, object_form, entry_form, message_form}
use Rattle.reference_check.specs.Reach.{kind_elements}
use Rattle.message_model.specs.SimpleTypes.{facets_of}
use Rattle.message_model.specs.Tables.{TypeEntry}
use Rattle.message_model.specs.Compiled.{types, object_word, object_name}
use Rattle.message_model.specs.inner.Numbers.{NamePlaces, IsCompilable, IsLayoutOf, IsTypeOf}

slots_same : (slots : List (Slot Place)) → map (slot_to (λ q. q)) slots ≡ slots
slots_same [] = refl
slots_same (s ∷ slots) = ap (λ xs. s ∷ xs) (slots_same slots)

-- the type of the message
pub message_formed : (R : Contents) (m : List ℕ) (h : ℕ → Place) (d : MessageDef) (slots : List (Slot ℕ)) → find_message m R.messages ≡ Some d → map (slot_to h) slots ≡ map slot_of d.blocks
    → form_to h (λ x. x) (Sequence slots) ≡ types R m message
message_formed R m h d slots found same =
    let right : types R m message ≡ Sequence (map slot_of d.blocks) =
    ap (λ x. form_to (λ q. q) (facets_of R) (message_form x)) found ∙ ap Sequence (slots_same (map slot_of d.blocks)) in
    let left : form_to h (λ x. x) (Sequence slots) ≡ Sequence (map slot_of d.blocks) = ap Sequence same in
    left ∙ sym right

-- the type of a component, and of a choice
pub component_formed : (R : Contents) (h : ℕ → Place) (o : Object) (slots : List (Slot ℕ)) (view : List ElementDef) → o.kind ≡ object.Component → view ≡ o.elements
    → map (slot_to h) slots ≡ map slot_of view → form_to h (λ x. x) (Sequence slots) ≡ form_to (λ q. q) (facets_of R) (object_form R o o.kind)
component_formed R h o slots view is seen same =
    let right : form_to (λ q. q) (facets_of R) (object_form R o o.kind) ≡ Sequence (map slot_of o.elements) =
    ap (λ k. form_to (λ q. q) (facets_of R) (object_form R o k)) is ∙ ap Sequence (slots_same (map slot_of o.elements)) in
    let left : form_to h (λ x. x) (Sequence slots) ≡ Sequence (map slot_of o.elements) = ap Sequence (same ∙ ap (map slot_of) seen) in
    left ∙ sym right

pub choice_formed : (R : Contents) (h : ℕ → Place) (o : Object) (slots : List (Slot ℕ)) (view : List ElementDef) → o.kind ≡ object.Choice → view ≡ o.elements
    → map (slot_to h) slots ≡ map slot_of view → form_to h (λ x. x) (Choice slots) ≡ form_to (λ q. q) (facets_of R) (object_form R o o.kind)
choice_formed R h o slots view is seen same =
    let right : form_to (λ q. q) (facets_of R) (object_form R o o.kind) ≡ Choice (map slot_of o.elements) =
    ap (λ k. form_to (λ q. q) (facets_of R) (object_form R o k)) is ∙ ap Choice (slots_same (map slot_of o.elements)) in
    let left : form_to h (λ x. x) (Choice slots) ≡ Choice (map slot_of o.elements) = ap Choice (same ∙ ap (map slot_of) seen) in
    left ∙ sym right

-- what the elements of a component or a choice name
pub elements_name : (R : Contents) (places : List ℕ) (o : Object) (k : ObjectKind) (view : List ElementDef) → IsCompilable R places o → o.kind ≡ k → view ≡ o.elements
    → kind_elements k o.elements ≡ o.elements → NamePlaces R.objects places view
elements_name R places o k view can is seen all e inside =
    can.elements e (subst (λ xs. Contains xs e) (seen ∙ (sym all ∙ ap (λ x. kind_elements x o.elements) (sym is))) inside)

-- the type of an object
pub object_typed : (R : Contents) (m places id : List ℕ) (o : Object) (t : TypeEntry) → find_entry id R.objects ≡ Some o → IsLayoutOf R places o t.form → t.word ≡ o.word → t.name ≡ o.name
    → IsTypeOf R m places (entry id) t
object_typed R m places id o t found form word name = record {
  form = form ∙ ap (λ x. form_to (λ q. q) (facets_of R) (entry_form R x)) (sym found);
  word = word ∙ ap object_word (sym found);
  name = name ∙ ap object_name (sym found);
}
