-- Messages whose elements lead to types of kinds that instances have.
use Rattle.std.proofs.Common.{◌≡◌, ℕ, zero, suc, [], ◌∷◌, Some, refl, subst}
use Rattle.facets.specs.declared.simple.Simple.{Simple}
use Rattle.reference_check.specs.Forms.{Graph, Form, Slot}
use Rattle.reference_check.specs.Forms as form
use Rattle.reference_check.specs.Shapes.{Shape, HasShape, AreFinite}
use Rattle.der_model.specs.SomeAnswers.{HasKind, HaveKinds}
use Rattle.der_model.specs.Examples.{text_slot, list_slot, amount_slot, forms}

shaped_kind : {P L : Type 0} (types : Graph P L) (f : Form P L) (shape : Shape) → (f ≡ form.LeftOut → ⊥) → HasShape types f shape → HasKind f
shaped_kind types (form.Sequence slots) shape other h = tt
shaped_kind types (form.Choice slots) shape other h = tt
shaped_kind types (form.Simple simple) shape other h = tt
shaped_kind types (form.Money code number) shape other h = tt
shaped_kind types form.Envelope shape other h = tt
shaped_kind types form.LeftOut shape other h = other refl
shaped_kind types form.Missing shape other h = h

-- a type that has an instance is of such a kind
pub finite_have_kinds : {P L : Type 0} (types : Graph P L) (root : P) → AreFinite types root → HaveKinds types
finite_have_kinds types root finite p k s found = (let r = finite.slots p k s found in shaped_kind types (types s.target) r.0 (finite.kinds s.target) r.1)

some_is : {A : Type 0} {x y : A} → Some x ≡ Some y → x ≡ y
some_is e = cc

abbrev own_forms : ℕ → Form ℕ Simple
own_forms = forms (text_slot (Some 1) ∷ list_slot ∷ amount_slot ∷ [])

pub row_kinds : HaveKinds own_forms
unfolding forms
row_kinds zero zero s found = subst (λ (z : Slot ℕ). HasKind (own_forms z.target)) (some_is found) tt
row_kinds zero (suc k) s found = absurd cc
row_kinds (suc zero) zero s found = subst (λ (z : Slot ℕ). HasKind (own_forms z.target)) (some_is found) tt
row_kinds (suc zero) (suc zero) s found = subst (λ (z : Slot ℕ). HasKind (own_forms z.target)) (some_is found) tt
row_kinds (suc zero) (suc (suc zero)) s found = subst (λ (z : Slot ℕ). HasKind (own_forms z.target)) (some_is found) tt
row_kinds (suc zero) (suc (suc (suc k))) s found = absurd cc
row_kinds (suc (suc zero)) k s found = absurd cc
row_kinds (suc (suc (suc zero))) k s found = absurd cc
row_kinds (suc (suc (suc (suc n)))) k s found = absurd cc
