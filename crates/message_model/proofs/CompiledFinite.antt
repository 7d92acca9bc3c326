-- The types of a message that breaks no rule of its repository each have an instance, and no type is of a kind that instances do not have.
use Rattle.std.proofs.Common.{◌≡◌, ℕ, zero, suc, List, [], ◌∷◌, Option, Some, None, refl, sym, ap, subst, ◌∙◌, arith, inl}
use Rattle.std.specs.Prelude.{slice_get}
use Rattle.std.proofs.lemmas.Option.{same_Some}
use Rattle.facets.specs.declared.simple.Simple.{Simple}
use Rattle.repo_objects.specs.declared.objects.MessageDef.{MessageDef}
use Rattle.repo_objects.specs.declared.objects.Object.{Object}
use Rattle.repo_objects.specs.declared.objects.Kinds.{Kinds}
use Rattle.repo_objects.specs.declared.objects.Kinds.TheVariants as kinds
use Rattle.repo_objects.specs.declared.objects.ObjectKind.{ObjectKind}
use Rattle.repo_objects.specs.declared.objects.ObjectKind.TheVariants as object
use Rattle.repo_objects.specs.Repository.{Contents}
use Rattle.reference_check.specs.Forms.{Slot, Form, form_slots, form_to, slot_to}
use Rattle.reference_check.specs.Forms as form
use Rattle.reference_check.specs.Graph.{Place, document, message, entry, nowhere, graph, find_message, simple_form, object_form, entry_form, message_form, document_form}
use Rattle.reference_check.specs.Laws.{ReadyAreFinite}
use Rattle.reference_check.specs.Reach.{Reaches, itself}
use Rattle.reference_check.specs.Rules.{NoMessage, LeftOutKind}
use Rattle.reference_check.specs.Shapes.{Component, Nothing, Child, HasShape, IsFinite, AreFinite}
use Rattle.reference_check.specs.Words.{MayComeTimes, IsSequence, times}
use Rattle.reference_check.proofs.RenamedForms.{form_slot_to}
use Rattle.message_model.specs.Compiled.{Compiles, IsReachedList, types, place_of}
use Rattle.message_model.specs.Ready.{IsReady, OnObjects}
use Rattle.message_model.specs.SimpleTypes.{facets_of}
use Rattle.message_model.specs.Tables.{Tables, types_of}
use Rattle.message_model.proofs.Compilable.{object_there}
use Rattle.message_model.proofs.ShapesContinue.{shapes_same, compiled_finite}
use Rattle.message_model.proofs.SoundTables.{type_place}
use Rattle.message_model.proofs.SoundTypes.{IsTypePlace, IsTarget, types_lead}

-- the one slot of `Document` comes once
one_comes : (s : Slot Place) → s.min ≡ 1 → s.max ≡ Some 1 → IsSequence (s ∷ []) (0 ∷ [])
one_comes s min max = record { ordered = (omega arith, omega arith, tt); within = within }
  where
    within : (k : ℕ) (t : Slot Place) → slice_get (s ∷ []) k ≡ Some t → MayComeTimes (times k (0 ∷ [])) t
    within zero t at = subst (λ (x : Slot Place). MayComeTimes 1 x) (same_Some s t at) (rw min rw max (omega arith, omega arith))
    within (suc k) t at = absurd cc

module _ (finite : ReadyAreFinite) (R : Contents) (m : List ℕ) (ready : IsReady R m) where
  -- ---- the places that are reached

  reached_finite : (p : Place) → Reaches R m p → IsFinite (types R m) p
  reached_finite p reach =
      let v : IsFinite (graph R m) p = finite R m (λ rule q asked there broken. ready (OnObjects rule) q there broken) p reach in
      (v.0, (shapes_same (types R m) (graph R m) (λ q. q) (facets_of R) (λ q. refl) p v.0).1 v.1)

  target_finite : (q : Place) → IsTarget R m ready q → IsFinite (types R m) q
  target_finite document at = absurd at
  target_finite message at = reached_finite message itself
  target_finite (entry id) at = reached_finite (entry id) at
  target_finite nowhere at = absurd at

  document_finite : IsFinite (types R m) document
  document_finite = by (find_message m R.messages) refl (reached_finite message itself)
    where
      by : (d : Option MessageDef) → find_message m R.messages ≡ d → IsFinite (types R m) message → IsFinite (types R m) document
      by None found v = absurd (ready (OnObjects NoMessage) message itself (refl, found))
      by (Some d) found (v, has) = (
        Component (Child 0 v Nothing),
        subst (λ x. HasShape (types R m) (form_to (λ q. q) (facets_of R) (document_form x)) (Component (Child 0 v Nothing))) (sym found)
            (one_comes (record { tag = d.tag; min = 1; max = Some 1; target = message }) refl refl, ((record { tag = d.tag; min = 1; max = Some 1; target = message }, refl, has), tt)),
      )

  -- ---- no kind is left out

  simple_kept : (o : Object) (k : Kinds) (c : Option (List ℕ)) → form_to (λ q. q) (facets_of R) (simple_form R o k c) ≡ form.LeftOut → ⊥
  simple_kept o kinds.Amount None e = cc
  simple_kept o kinds.Amount (Some c) e = cc
  simple_kept o _ c e = cc

  object_kept : (o : Object) (k : ObjectKind) → (k ≡ object.Other → ⊥) → form_to (λ q. q) (facets_of R) (object_form R o k) ≡ form.LeftOut → ⊥
  object_kept o (object.Simple k) other e = simple_kept o k o.currency e
  object_kept o object.Component other e = cc
  object_kept o object.Choice other e = cc
  object_kept o object.External other e = cc
  object_kept o object.Other other e = other refl

  document_kept : (d : Option MessageDef) → form_to (λ q. q) (facets_of R) (document_form d) ≡ form.LeftOut → ⊥
  document_kept None e = cc
  document_kept (Some d) e = cc

  message_kept : (d : Option MessageDef) → form_to (λ q. q) (facets_of R) (message_form d) ≡ form.LeftOut → ⊥
  message_kept None e = cc
  message_kept (Some d) e = cc

  place_kept : (p : Place) → IsTypePlace R m ready p → types R m p ≡ form.LeftOut → ⊥
  place_kept document at e = document_kept (find_message m R.messages) e
  place_kept message at e = message_kept (find_message m R.messages) e
  place_kept (entry id) at e =
      let there = object_there R m ready id at in
      object_kept there.0 there.0.kind (λ other. ready (OnObjects LeftOutKind) (entry id) at (id, there.0, refl, there.1, inl other))
      (ap (λ x. form_to (λ q. q) (facets_of R) (entry_form R x)) (sym there.1) ∙ e)
  place_kept nowhere at e = cc

  -- ---- the tables

  module _ (ids : List (List ℕ)) (list : IsReachedList R m ids) (T : Tables) (made : Compiles R m ids T) where
    abbrev h : ℕ → Place
    h = place_of ids

    slot_finite : (n k : ℕ) (s : Slot ℕ) → slice_get (form_slots (types_of T n)) k ≡ Some s → IsFinite (types R m) (h s.target)
    slot_finite n k s at =
        let slot = form_slot_to h (λ x. x) (types_of T n) k s at in
        let there = subst (λ (f : Form Place Simple). slice_get (form_slots f) k ≡ Some (slot_to h s)) (made.forms n) slot in
        target_finite (h s.target) (types_lead R m ready (h n) (type_place R m ready ids list n) k (slot_to h s) there)

    pub tables_finite : AreFinite (types_of T) 0
    tables_finite =
        compiled_finite (types R m) (types_of T) h (λ x. x) (λ n. sym (made.forms n)) 0 document_finite slot_finite
        (λ n left. place_kept (h n) (type_place R m ready ids list n) (sym (made.forms n) ∙ ap (form_to h (λ x. x)) left))
