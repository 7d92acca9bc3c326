-- What rounds find, and come to rest at, are the reached objects that have a finite instance.
use Rattle.std.proofs.Common.{◌≡◌, ℕ, zero, suc, IsTrue, unwrap_or, List, [], ◌∷◌, length, map, Option, Some, None, refl, sym, ap, subst, arith, inl, inr, Contains}
use Rattle.std.specs.Prelude.{slice_get}
use Rattle.std.specs.List.{AllByRecursion}
use Rattle.std.proofs.lemmas.List.Elements.{Contains-append_right}
use Rattle.repo_objects.specs.declared.objects.ElementDef.{ElementDef}
use Rattle.repo_objects.specs.declared.objects.MessageDef.{MessageDef}
use Rattle.repo_objects.specs.declared.objects.Object.{Object}
use Rattle.repo_objects.specs.declared.objects.Kinds.{Kinds}
use Rattle.repo_objects.specs.declared.objects.Kinds.TheVariants as kinds
use Rattle.repo_objects.specs.declared.objects.ObjectKind.{ObjectKind}
use Rattle.repo_objects.specs.declared.objects.ObjectKind.TheVariants.{Simple, Component, Choice, External, Other}
use Rattle.repo_objects.specs.Repository.{Contents}
use Rattle.reference_check.specs.Forms.{Slot}
use Rattle.reference_check.specs.Graph.{Place, document, message, entry, nowhere, graph, references, one_of, slot_of, find_entry, find_message, entry_form, object_form, message_form, simple_form}
use Rattle.reference_check.specs.Shapes.{IsFinite, MayBeFound, IsReached}
use Rattle.reference_check.specs.Reach.{elements_of, kind_elements, elements_or_none, blocks_or_none, Reaches, element}
use Rattle.reference_check.specs.Laws.{FindsTheFinite}
use Rattle.reference_check.proofs.FiniteForms.{found_form}
use Rattle.reference_check.proofs.Lookups.{none_there, first_in}

-- what is in the rest of a list is in it
pub later_in : {A : Type 0} (x y : A) (xs : List A) → Contains xs y → Contains (x ∷ xs) y
later_in x y xs h = Contains-append_right (x ∷ []) xs y h

module _ (R : Contents) (m : List ℕ) (IsMarked : Place → Type 0) where
  -- of those that are reached
  abbrev IsMarkedIf : Place → Type 0
  IsMarkedIf p = Reaches R m p → IsMarked p

  -- an element that names one object leads to it
  target_reached : (p : Place) (e : ElementDef) → Reaches R m p → Contains (elements_of R m p) e → length (references e) ≡ 1 → Reaches R m (slot_of e).target
  target_reached p e reach here one = by (references e) refl one
    where
      by : (ids : List (List ℕ)) → references e ≡ ids → length ids ≡ 1 → Reaches R m (one_of ids)
      by [] k l = absurd (omega (arith, l))
      by (id ∷ []) k l = element reach here (subst (λ ids. Contains ids id) (sym k) (first_in id []))
      by (id ∷ (other ∷ ids)) k l = absurd (omega (arith, l))

  one_marked : (e : ElementDef) → Reaches R m (slot_of e).target → IsReached IsMarkedIf (slot_of e) → IsReached IsMarked (slot_of e)
  one_marked e reach (inl none) = inl none
  one_marked e reach (inr h) = inr (h reach)

  all_marked : (es : List ElementDef) → ((e : ElementDef) → Contains es e → Reaches R m (slot_of e).target)
      → AllByRecursion (IsReached IsMarkedIf) (map slot_of es) → AllByRecursion (IsReached IsMarked) (map slot_of es)
  all_marked [] targets h = tt
  all_marked (e ∷ es) targets (h, rest) =
      (one_marked e (targets e (first_in e es)) h, all_marked es (λ f k. targets f (later_in e f es k)) rest)

  some_marked : (es : List ElementDef) → ((e : ElementDef) → Contains es e → Reaches R m (slot_of e).target)
      → (k : ℕ) (s : Slot Place) → slice_get (map slot_of es) k ≡ Some s → IsReached IsMarkedIf s → IsReached IsMarked s
  some_marked es targets k s at (inl none) = inl none
  some_marked es targets k s at (inr h) = inr (h (target es targets k s at))
    where
      target : (es : List ElementDef) → ((e : ElementDef) → Contains es e → Reaches R m (slot_of e).target)
          → (k : ℕ) (s : Slot Place) → slice_get (map slot_of es) k ≡ Some s → Reaches R m s.target
      target [] targets k s at = absurd (none_there k at)
      target (e ∷ es) targets zero s at =
          subst (λ (q : Slot Place). Reaches R m q.target) (ap (λ (r : Option (Slot Place)). unwrap_or r (slot_of e)) at) (targets e (first_in e es))
      target (e ∷ es) targets (suc k) s at = target es (λ f h. targets f (later_in e f es h)) k s at

  blocks_marked : (d : Option MessageDef) → ((e : ElementDef) → Contains (blocks_or_none d) e → Reaches R m (slot_of e).target)
      → MayBeFound IsMarkedIf (message_form d) → MayBeFound IsMarked (message_form d)
  blocks_marked None targets h = absurd h
  blocks_marked (Some d) targets h = all_marked d.blocks targets h

  simple_marked : (o : Object) (k : Kinds) (c : Option (List ℕ)) → MayBeFound IsMarked (simple_form R o k c)
  simple_marked o kinds.Amount None = tt
  simple_marked o kinds.Amount (Some c) = tt
  simple_marked o _ c = tt

  kind_marked : (o : Object) (k : ObjectKind) → ((e : ElementDef) → Contains (kind_elements k o.elements) e → Reaches R m (slot_of e).target)
      → MayBeFound IsMarkedIf (object_form R o k) → MayBeFound IsMarked (object_form R o k)
  kind_marked o (Simple k) targets h = simple_marked o k o.currency
  kind_marked o Component targets h = all_marked o.elements targets h
  kind_marked o Choice targets (k, s, at, r) = (k, s, at, some_marked o.elements targets k s at r)
  kind_marked o External targets h = tt
  kind_marked o Other targets h = tt

  object_marked : (o : Option Object) → ((e : ElementDef) → Contains (elements_or_none o) e → Reaches R m (slot_of e).target)
      → MayBeFound IsMarkedIf (entry_form R o) → MayBeFound IsMarked (entry_form R o)
  object_marked None targets h = absurd h
  object_marked (Some o) targets h = kind_marked o o.kind targets h

  no_document : Reaches R m document → ⊥
  no_document h = elim h [ ]

  -- what rounds over the reached find, rounds over all find
  form_marked : (p : Place) → Reaches R m p → ((e : ElementDef) → Contains (elements_of R m p) e → Reaches R m (slot_of e).target)
      → MayBeFound IsMarkedIf (graph R m p) → MayBeFound IsMarked (graph R m p)
  form_marked document reach targets h = absurd (no_document reach)
  form_marked message reach targets h = blocks_marked (find_message m R.messages) targets h
  form_marked (entry id) reach targets h = object_marked (find_entry id R.objects) targets h
  form_marked nowhere reach targets h = absurd h

  module _ (stable : (p : Place) → Reaches R m p → MayBeFound IsMarked (graph R m p) → IsMarked p)
      (one : (p : Place) (e : ElementDef) → Reaches R m p → Contains (elements_of R m p) e → length (references e) ≡ 1) where
    closed : (p : Place) → MayBeFound IsMarkedIf (graph R m p) → IsMarkedIf p
    closed p h reach = stable p reach (form_marked p reach (λ e k. target_reached p e reach k (one p e reach k)) h)

    -- what has a finite instance is what a round finds
    pub finite_found : (p : Place) → Reaches R m p → IsFinite (graph R m) p → MayBeFound IsMarked (graph R m p)
    finite_found p reach (s, h) =
        form_marked p reach (λ e k. target_reached p e reach k (one p e reach k)) (found_form (graph R m) IsMarkedIf closed (graph R m p) s h)

    pub finite_marked : (p : Place) → Reaches R m p → IsFinite (graph R m) p → IsMarked p
    finite_marked p reach finite = stable p reach (finite_found p reach finite)

pub finds_the_finite : FindsTheFinite
finds_the_finite R m marked sound stable one p reach = (sound p, finite_marked R m (λ q. IsTrue (marked q)) stable one p reach)
