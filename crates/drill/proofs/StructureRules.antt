-- The built-in message breaks no rule of structure.
use Rattle.std.proofs.Common.{◌≡◌, ℕ, zero, suc, true, [], ◌∷◌, ◌++◌, length, map, Some, refl, sym, ap, subst, ◌∙◌, arith, inl, inr}
use Rattle.std.specs.Prelude.{Contains, slice_get}
use Rattle.std.specs.List.{AllByRecursion}
use Rattle.repo_objects.specs.declared.objects.ElementDef.{ElementDef}
use Rattle.repo_objects.specs.declared.objects.Object.{Object}
use Rattle.repo_objects.specs.declared.objects.ObjectKind.TheVariants.{Choice}
use Rattle.reference_check.specs.Forms.{Slot, form_slots}
use Rattle.reference_check.specs.Graph.{Place, message, entry, references, graph}
use Rattle.reference_check.specs.Reach.{elements_of}
use Rattle.reference_check.specs.Rules.{Breaks, OfObject, HasNoEntry, UpToMax, own_names}
use Rattle.reference_check.specs.Rules as rules
use Rattle.reference_check.specs.Names.{is_profile_name}
use Rattle.reference_check.specs.Shapes.{Component, OpenLeaf, Nothing, Child, HasShape, IsFinite}
use Rattle.reference_check.specs.Words.{IsSequence, MayComeTimes, times}
use Rattle.drill.specs.BuiltIn.{contents, message_id, node_id, text_object, node_object, name_element, child_element, node_block}
use Rattle.drill.proofs.ReachedPlaces.{of_one, IsPlace, at_message, at_text, at_node, no_currency, of_object}

-- ---- the elements of each place

-- what is so of each element
record IsGood (e : ElementDef) : Type 0 where
  there : AllByRecursion (λ id. HasNoEntry contents id → ⊥) (references e)
  one : length (references e) ≡ 1
  bounds : UpToMax e.min e.max

good_name : IsGood name_element
good_name = record { there = ((λ h. cc), tt); one = refl; bounds = (omega arith, omega arith) }

good_child : IsGood child_element
good_child = record { there = ((λ h. cc), tt); one = refl; bounds = tt }

good_block : IsGood node_block
good_block = record { there = ((λ h. cc), tt); one = refl; bounds = (omega arith, omega arith) }

good : (p : Place) → IsPlace p → AllByRecursion IsGood (elements_of contents message_id p)
good p at_message = (good_block, tt)
good p at_text = tt
good p at_node = (good_name, (good_child, tt))

is_good : (p : Place) → IsPlace p → (e : ElementDef) → Contains (elements_of contents message_id p) e → IsGood e
is_good p at e inside = of_one IsGood (elements_of contents message_id p) (good p at) e inside

-- ---- the rules

pub is_there : (p : Place) → Breaks contents message_id rules.NoMessage p → ⊥
is_there p (at, none) = cc

pub is_one : (p : Place) → Breaks contents message_id rules.TwoMessages p → ⊥
is_one p (at, two) = omega (arith, two)

pub entries_there : (p : Place) → IsPlace p → Breaks contents message_id rules.Dangling p → ⊥
entries_there p at (inl (e, id, inside, named, none)) = (let i = is_good p at e inside in of_one (λ x. HasNoEntry contents x → ⊥) (references e) i.there id named none)
entries_there p at (inr (id, is, none)) = (let without = no_currency p at in cc)

pub no_set : (p : Place) → IsPlace p → Breaks contents message_id rules.BadCurrency p → ⊥
no_set p at (id, o, is, found, other) = (let without = no_currency p at in cc)

pub one_each : (p : Place) → IsPlace p → Breaks contents message_id rules.NotOneReference p → ⊥
one_each p at (e, inside, other) = (let i = is_good p at e inside in other i.one)

are_names : (p : Place) → IsPlace p → AllByRecursion (λ name. is_profile_name name ≡ true) (own_names contents message_id p ++ map (λ (e : ElementDef). e.tag) (elements_of contents message_id p))
are_names p at_message = (refl, (refl, (refl, tt)))
are_names p at_text = (refl, tt)
are_names p at_node = (refl, (refl, (refl, tt)))

pub good_names : (p : Place) → IsPlace p → Breaks contents message_id rules.BadName p → ⊥
good_names p at (name, inside, none) = (let is = of_one (λ x. is_profile_name x ≡ true) _ (are_names p at) name inside in cc)

pub tags_differ : (p : Place) → IsPlace p → Breaks contents message_id rules.TagTwice p → ⊥
tags_differ p at_message (i, zero, a, b, lt, ga, gb, same) = omega (arith, lt)
tags_differ p at_message (i, suc j, a, b, lt, ga, gb, same) = cc
tags_differ p at_text (i, j, a, b, lt, ga, gb, same) = cc
tags_differ p at_node (i, zero, a, b, lt, ga, gb, same) = omega (arith, lt)
tags_differ p at_node (suc i, suc zero, a, b, lt, ga, gb, same) = omega (arith, lt)
tags_differ p at_node (zero, suc zero, a, b, lt, ga, gb, same) =
    let first : name_element ≡ a = cc in
    let second : child_element ≡ b = cc in
    let tags : name_element.tag ≡ child_element.tag = ap (λ (e : ElementDef). e.tag) first ∙ (same ∙ sym (ap (λ (e : ElementDef). e.tag) second)) in
    cc
tags_differ p at_node (i, suc (suc j), a, b, lt, ga, gb, same) = cc

pub good_bounds : (p : Place) → IsPlace p → Breaks contents message_id rules.BadBounds p → ⊥
good_bounds p at (e, inside, other) = (let i = is_good p at e inside in other i.bounds)

no_choice : (p : Place) → IsPlace p → (Says : Object → Type 0) → ((o : Object) → Says o → o.kind ≡ Choice) → OfObject contents p Says → ⊥
no_choice p at Says is of = elim (of_object p Says at of) [
  | inl h ↦ (let kind = is text_object h in cc)
  | inr h ↦ (let kind = is node_object h in cc)
]

pub no_optional : (p : Place) → IsPlace p → Breaks contents message_id rules.OptionalAlternative p → ⊥
no_optional p at = no_choice p at _ (λ o h. h.0)

pub no_alternatives : (p : Place) → IsPlace p → Breaks contents message_id rules.NoAlternatives p → ⊥
no_alternatives p at = no_choice p at _ (λ o h. h.0)

-- ---- instances

-- the one slot comes, or the first
within_one : (a s : Slot Place) → MayComeTimes 1 a → Some a ≡ Some s → MayComeTimes 1 s
within_one a s within same = (let is : a ≡ s = cc in subst (MayComeTimes 1) is within)

within_none : (a s : Slot Place) → MayComeTimes 0 a → Some a ≡ Some s → MayComeTimes 0 s
within_none a s within same = (let is : a ≡ s = cc in subst (MayComeTimes 0) is within)

node_word : IsSequence (form_slots (graph contents message_id (entry node_id))) (0 ∷ [])
node_word = record { ordered = (omega arith, omega arith, tt); within = within }
  where
    within : (k : ℕ) (s : Slot Place) → slice_get (form_slots (graph contents message_id (entry node_id))) k ≡ Some s → MayComeTimes (times k (0 ∷ [])) s
    within zero s there = within_one _ s (omega arith, omega arith) there
    within (suc zero) s there = within_none _ s (omega arith, tt) there
    within (suc (suc k)) s there = absurd cc

message_word : IsSequence (form_slots (graph contents message_id message)) (0 ∷ [])
message_word = record { ordered = (omega arith, omega arith, tt); within = within }
  where
    within : (k : ℕ) (s : Slot Place) → slice_get (form_slots (graph contents message_id message)) k ≡ Some s → MayComeTimes (times k (0 ∷ [])) s
    within zero s there = within_one _ s (omega arith, omega arith) there
    within (suc k) s there = absurd cc

node_has : HasShape (graph contents message_id) (graph contents message_id (entry node_id)) (Component (Child 0 OpenLeaf Nothing))
node_has = (node_word, ((_, refl, tt), tt))

finite : (p : Place) → IsPlace p → IsFinite (graph contents message_id) p
finite p at_message = (Component (Child 0 (Component (Child 0 OpenLeaf Nothing)) Nothing), (message_word, ((_, refl, node_has), tt)))
finite p at_text = (OpenLeaf, tt)
finite p at_node = (Component (Child 0 OpenLeaf Nothing), node_has)

pub not_endless : (p : Place) → IsPlace p → Breaks contents message_id rules.Endless p → ⊥
not_endless p at none = none (finite p at)
