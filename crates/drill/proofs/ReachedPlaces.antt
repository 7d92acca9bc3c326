-- What the built-in message reaches: itself, the text and the node.
use Rattle.std.proofs.Common.{◌≡◌, ℕ, zero, suc, ◌<◌, ◌⊎◌, List, [], ◌∷◌, Some, None, refl, sym, ap, subst, ◌∙◌, arith, inl, inr}
use Rattle.std.specs.Prelude.{Contains, AllPairs}
use Rattle.std.specs.List.{AllByRecursion}
use Rattle.repo_objects.specs.declared.objects.ElementDef.{ElementDef}
use Rattle.repo_objects.specs.declared.objects.Object.{Object}
use Rattle.reference_check.specs.Graph.{Place, message, entry, find_entry, references}
use Rattle.reference_check.specs.Reach.{Reaches, itself, element, currency, elements_of, currency_of, rank_of}
use Rattle.reference_check.specs.Rules.{OfObject}
use Rattle.message_model.specs.Compiled.{IsReachedList}
use Rattle.drill.specs.BuiltIn.{contents, message_id, text_id, node_id, text_object, node_object, name_element, node_block}

-- what holds of each element of a list, at one of them
pub of_one : {X : Type 0} (P : X → Type 0) (xs : List X) → AllByRecursion P xs → (x : X) → Contains xs x → P x
of_one P [] all x (k, lt, is) = absurd (omega (arith, lt))
of_one P (y ∷ ys) all x (zero, lt, is) = subst P is all.0
of_one P (y ∷ ys) all x (suc k, lt, is) = of_one P ys all.1 x (k, omega (arith, lt), is)

-- the places that are reached
pub data IsPlace : Place → Type 0 where
  at_message : IsPlace message
  at_text : IsPlace (entry text_id)
  at_node : IsPlace (entry node_id)

abbrev LeadsToPlaces : ElementDef → Type 0
LeadsToPlaces e = AllByRecursion (λ id. IsPlace (entry id)) (references e)

leads : (p : Place) → IsPlace p → AllByRecursion LeadsToPlaces (elements_of contents message_id p)
leads p at_message = ((at_node, tt), tt)
leads p at_text = tt
leads p at_node = ((at_text, tt), (((at_node, tt), tt)))

pub no_currency : (p : Place) → IsPlace p → currency_of contents p ≡ None
no_currency p at_message = refl
no_currency p at_text = refl
no_currency p at_node = refl

pub among : (p : Place) → Reaches contents message_id p → IsPlace p
among p itself = at_message
among p (element {p = q} {e = e} {id = id} reach inside named) =
    of_one (λ id. IsPlace (entry id)) (references e) (of_one LeadsToPlaces (elements_of contents message_id q) (leads q (among q reach)) e inside) id named
among p (currency {p = q} {id = id} reach is) = (let none = no_currency q (among q reach) in absurd cc)

pub node_reached : Reaches contents message_id (entry node_id)
node_reached = element {e = node_block} itself (0, omega arith, refl) (0, omega arith, refl)

pub text_reached : Reaches contents message_id (entry text_id)
text_reached = element {e = name_element} node_reached (0, omega arith, refl) (0, omega arith, refl)

-- the object of a place
pub of_object : (p : Place) (Says : Object → Type 0) → IsPlace p → OfObject contents p Says → Says text_object ⊎ Says node_object
of_object p Says at_message (id, o, is, found, says) = absurd cc
of_object p Says at_text (id, o, is, found, says) =
    let same : id ≡ text_id = cc in
    let object : Some o ≡ Some text_object = sym found ∙ ap (λ x. find_entry x contents.objects) same in
    inl (subst Says (let one : o ≡ text_object = cc in one) says)
of_object p Says at_node (id, o, is, found, says) =
    let same : id ≡ node_id = cc in
    let object : Some o ≡ Some node_object = sym found ∙ ap (λ x. find_entry x contents.objects) same in
    inr (subst Says (let one : o ≡ node_object = cc in one) says)

-- ---- the list of the objects

abbrev pub ids : List (List ℕ)
ids = text_id ∷ (node_id ∷ [])

in_ids : (id : List ℕ) → IsPlace (entry id) → Contains ids id
in_ids id at_text = (0, omega arith, refl)
in_ids id at_node = (1, omega arith, refl)

from_ids : (id : List ℕ) → Contains ids id → Reaches contents message_id (entry id)
from_ids = of_one (λ id. Reaches contents message_id (entry id)) ids (text_reached, (node_reached, tt))

ordered : AllPairs (λ a b. rank_of contents (entry a) < rank_of contents (entry b)) ids
ordered zero zero d lt below = absurd (omega (arith, lt))
ordered zero (suc zero) d lt below = omega arith
ordered zero (suc (suc j)) d lt below = absurd (omega (arith, below))
ordered (suc i) zero d lt below = absurd (omega (arith, lt))
ordered (suc i) (suc j) d lt below = absurd (omega (arith, lt, below))

pub reached_list : IsReachedList contents message_id ids
reached_list = record {
  ordered = ordered;
  reached = λ id. (from_ids id, λ reach. in_ids id (among (entry id) reach));
}
