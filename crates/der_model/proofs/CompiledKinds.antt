-- The elements of a message that breaks no rule lead to types of kinds that instances have.
use Rattle.std.proofs.Common.{◌≡◌, ℕ, List, Option, Some, None, refl, sym, subst, inl}
use Rattle.std.specs.Prelude.{slice_get}
use Rattle.facets.specs.declared.simple.Simple.{Simple}
use Rattle.repo_objects.specs.declared.objects.MessageDef.{MessageDef}
use Rattle.repo_objects.specs.declared.objects.Object.{Object}
use Rattle.repo_objects.specs.declared.objects.Kinds.{Kinds}
use Rattle.repo_objects.specs.declared.objects.Kinds.TheVariants as kinds
use Rattle.repo_objects.specs.declared.objects.ObjectKind.{ObjectKind}
use Rattle.repo_objects.specs.declared.objects.ObjectKind.TheVariants as object
use Rattle.repo_objects.specs.Repository.{Contents}
use Rattle.reference_check.specs.Forms.{Form, form_slots, form_to, slot_to}
use Rattle.reference_check.specs.Forms as form
use Rattle.reference_check.specs.Graph.{Place, document, message, entry, nowhere, find_message, simple_form, object_form, entry_form, message_form}
use Rattle.reference_check.specs.Reach.{Reaches, itself}
use Rattle.reference_check.specs.Rules.{NoMessage, LeftOutKind}
use Rattle.reference_check.proofs.RenamedForms.{form_slot_to}
use Rattle.message_model.specs.Ready.{IsReady, OnObjects}
use Rattle.message_model.specs.Compiled.{types, place_of}
use Rattle.message_model.specs.SimpleTypes.{facets_of}
use Rattle.message_model.specs.Tables.{types_of}
use Rattle.message_model.proofs.Compilable.{object_there}
use Rattle.message_model.proofs.SoundTypes.{IsTarget, types_lead}
use Rattle.message_model.proofs.SoundTables.{type_place}
use Rattle.der_model.specs.SomeAnswers.{HasKind, CompiledHaveKinds}

-- a form has its kind whatever its types are called
kind_back : {P : Type 0} (h : ℕ → P) (f : Form ℕ Simple) → HasKind (form_to h (λ x. x) f) → HasKind f
kind_back h (form.Sequence slots) has = tt
kind_back h (form.Choice slots) has = tt
kind_back h (form.Simple simple) has = tt
kind_back h (form.Money code number) has = tt
kind_back h form.Envelope has = tt
kind_back h form.LeftOut has = has
kind_back h form.Missing has = has

module _ (R : Contents) (m : List ℕ) (ready : IsReady R m) where
  simple_kind : (o : Object) (k : Kinds) (c : Option (List ℕ)) → HasKind (form_to (λ q. q) (facets_of R) (simple_form R o k c))
  simple_kind o kinds.Amount None = tt
  simple_kind o kinds.Amount (Some c) = tt
  simple_kind o _ c = tt

  -- of an object that is not of a kind that is left out
  object_kind : (o : Object) (k : ObjectKind) → (k ≡ object.Other → ⊥) → HasKind (form_to (λ q. q) (facets_of R) (object_form R o k))
  object_kind o (object.Simple k) other = simple_kind o k o.currency
  object_kind o object.Component other = tt
  object_kind o object.Choice other = tt
  object_kind o object.External other = tt
  object_kind o object.Other other = other refl

  entry_kind : (id : List ℕ) → Reaches R m (entry id) → HasKind (types R m (entry id))
  entry_kind id reach =
      let there = object_there R m ready id reach in
      subst (λ x. HasKind (form_to (λ q. q) (facets_of R) (entry_form R x))) (sym there.1)
      (object_kind there.0 there.0.kind (λ other. ready (OnObjects LeftOutKind) (entry id) reach (id, there.0, refl, there.1, inl other)))

  message_kind : HasKind (types R m message)
  message_kind = by (find_message m R.messages) refl
    where
      by : (d : Option MessageDef) → find_message m R.messages ≡ d → HasKind (types R m message)
      by None found = absurd (ready (OnObjects NoMessage) message itself (refl, found))
      by (Some d) found = subst (λ x. HasKind (form_to (λ q. q) (facets_of R) (message_form x))) (sym found) tt

  target_kind : (q : Place) → IsTarget R m ready q → HasKind (types R m q)
  target_kind document at = absurd at
  target_kind message at = message_kind
  target_kind (entry id) at = entry_kind id at
  target_kind nowhere at = absurd at

pub compiled_have_kinds : CompiledHaveKinds
compiled_have_kinds R m ids T ready list made n k s at =
    let h = place_of ids in
    let slot = form_slot_to h (λ x. x) (types_of T n) k s at in
    let there = subst (λ (f : Form Place Simple). slice_get (form_slots f) k ≡ Some (slot_to h s)) (made.forms n) slot in
    let target = types_lead R m ready (h n) (type_place R m ready ids list n) k (slot_to h s) there in
    kind_back h (types_of T s.target) (subst (λ (f : Form Place Simple). HasKind f) (sym (made.forms s.target)) (target_kind R m ready (h s.target) target))
