-- What is so of each type that an element leads to is so of that of a primitive value; where these are of a kind that instances have, it holds contents.
use Rattle.std.proofs.Common.{◌≡◌, ℕ, zero, suc, Bool, true, false, List, [], ◌∷◌, Some, refl, sym, ap, ◌∙◌, subst}
use Rattle.std.specs.Prelude.{slice_get}
use Rattle.facets.specs.declared.simple.Simple.{Simple}
use Rattle.der_octets.specs.Octets.{Tag}
use Rattle.reference_check.specs.Forms.{Form, Slot, form_slots}
use Rattle.reference_check.specs.Forms as form
use Rattle.der_model.specs.DerMessage.{DerMessage}
use Rattle.der_model.specs.Structures.{Spot, Instance, Value, ListOf, NumberOf, Component, Unnamed, is_single, is_constructed, universal_tag, component, components, item_components, amount_components, form_structure, number_structure, structure}
use Rattle.der_model.specs.States.{Begins, identifier_answer}
use Rattle.der_model.specs.OpenParts.{IsPrimitive, IsPrimitiveSpot, components_of}
use Rattle.der_model.specs.Sound.{IsSoundDer}
use Rattle.der_model.specs.SomeAnswers.{HasKind, HaveKinds}
use Rattle.der_model.proofs.OneLevel.{begins_remains}

-- this is so of the type of the items of a list
abbrev pub OfType : {P : Type 0} → (P → Type 0) → Spot P → Type 0
OfType Has (ListOf p k s) = Has s.target
OfType Has spot = Unit {0}

-- the items of a list are of a type of such a kind
abbrev pub OfKind : {P : Type 0} → DerMessage P → Spot P → Type 0
OfKind m spot = OfType (λ p. HasKind (m.forms p)) spot

module _ {P : Type 0} (m : DerMessage P) (sound : IsSoundDer m) (Has : P → Type 0) (simple_has : (p : P) (simple : Simple) → m.forms p ≡ form.Simple simple → Has p)
    (targets_have : (p : P) (k : ℕ) (s : Slot P) → slice_get (form_slots (m.forms p)) k ≡ Some s → Has s.target) where
  -- a component of such a type, where it is primitive
  abbrev Good : Component P → Type 0
  Good c = OfType Has c.spot × (c.constructed ≡ false → IsPrimitiveSpot Has m c.spot)

  slot_good : (p : P) (k : ℕ) (s : Slot P) → Has s.target → Good (component m.forms p k s)
  slot_good p k s has = go (is_single s) refl
    where
      go : (b : Bool) → is_single s ≡ b → Good (component m.forms p k s)
      go true e = rw e (tt, λ q. (q, has))
      go false e = rw e (has, λ q. absurd cc)

  slots_good : (p : P) (i : ℕ) (fs : List (Slot P)) → ((k : ℕ) (s : Slot P) → slice_get fs k ≡ Some s → Has s.target) → (k : ℕ) (c : Component P) → slice_get (components m.forms p i fs) k ≡ Some c → Good c
  slots_good p i [] each k c found = absurd cc
  slots_good p i (s ∷ fs) each zero c found = (let same : component m.forms p i s ≡ c = cc in subst Good same (slot_good p i s (each 0 s refl)))
  slots_good p i (s ∷ fs) each (suc k) c found = slots_good p (suc i) fs (λ j t there. each (suc j) t there) k c found

  targets : (p : P) (f : Form P Simple) → m.forms p ≡ f → (k : ℕ) (s : Slot P) → slice_get (form_slots f) k ≡ Some s → Has s.target
  targets p f at k s = subst (λ (z : Form P Simple). slice_get (form_slots z) k ≡ Some s → Has s.target) at (targets_have p k s)

  code_primitive : (p c : P) (number : Simple) → m.forms p ≡ form.Money c number → IsPrimitiveSpot Has m (Value c)
  code_primitive p c number at = go (sound.codes p c number at)
    where
      go : (simple : Simple) × (m.forms c ≡ form.Simple simple) → IsPrimitiveSpot Has m (Value c)
      go (simple, e) = (ap is_constructed e, simple_has c simple e)

  amount_good : (p c : P) (number : Simple) → m.forms p ≡ form.Money c number → (k : ℕ) (d : Component P) → slice_get (amount_components p c) k ≡ Some d → Good d
  amount_good p c number at zero d found = (let same = some_is found in subst Good same (tt, λ e. code_primitive p c number at))
    where
      some_is : {x y : Component P} → Some x ≡ Some y → x ≡ y
      some_is e = cc
  amount_good p c number at (suc zero) d found = (let same = some_is found in subst Good same (tt, λ e. rw at tt))
    where
      some_is : {x y : Component P} → Some x ≡ Some y → x ≡ y
      some_is e = cc
  amount_good p c number at (suc (suc k)) d found = absurd cc

  form_good : (p : P) (f : Form P Simple) → m.forms p ≡ f → (k : ℕ) (c : Component P) → slice_get (components_of (form_structure m.forms p f)) k ≡ Some c → Good c
  form_good p (form.Sequence fs) at k c found = slots_good p 0 fs (targets p (form.Sequence fs) at) k c found
  form_good p (form.Choice fs) at k c found = slots_good p 0 fs (targets p (form.Choice fs) at) k c found
  form_good p (form.Money code number) at k c found = amount_good p code number at k c found
  form_good p (form.Simple simple) at k c found = absurd cc
  form_good p form.Envelope at k c found = absurd cc
  form_good p form.LeftOut at k c found = absurd cc
  form_good p form.Missing at k c found = absurd cc

  plain_good : (p : P) (f : Form P Simple) → m.forms p ≡ f → Has p → (k : ℕ) (c : Component P) → slice_get (record { constructed = is_constructed f; tag = universal_tag f; required = false; label = Unnamed; spot = Value p } ∷ []) k ≡ Some c → Good c
  plain_good p f at has zero c found =
      let same : record { constructed = is_constructed f; tag = universal_tag f; required = false; label = Unnamed; spot = Value p } ≡ c = cc in
      subst Good same (tt, λ e. (subst (λ (z : Form P Simple). is_constructed z ≡ false) (sym at) e, has))
  plain_good p f at has (suc k) c found = absurd cc

  item_good : (p : P) (f : Form P Simple) → m.forms p ≡ f → Has p → (k : ℕ) (c : Component P) → slice_get (item_components m.forms p f) k ≡ Some c → Good c
  item_good p (form.Choice fs) at has k c found = slots_good p 0 fs (targets p (form.Choice fs) at) k c found
  item_good p (form.Sequence fs) at has k c found = plain_good p (form.Sequence fs) at has k c found
  item_good p (form.Simple simple) at has k c found = plain_good p (form.Simple simple) at has k c found
  item_good p (form.Money code number) at has k c found = plain_good p (form.Money code number) at has k c found
  item_good p form.Envelope at has k c found = plain_good p form.Envelope at has k c found
  item_good p form.LeftOut at has k c found = plain_good p form.LeftOut at has k c found
  item_good p form.Missing at has k c found = plain_good p form.Missing at has k c found

  number_none : (f : Form P Simple) (k : ℕ) (c : Component P) → slice_get (components_of (number_structure f)) k ≡ Some c → Good c
  number_none (form.Money code number) k c found = absurd cc
  number_none (form.Sequence fs) k c found = absurd cc
  number_none (form.Choice fs) k c found = absurd cc
  number_none (form.Simple simple) k c found = absurd cc
  number_none form.Envelope k c found = absurd cc
  number_none form.LeftOut k c found = absurd cc
  number_none form.Missing k c found = absurd cc

  component_good : (spot : Spot P) → OfType Has spot → (k : ℕ) (c : Component P) → slice_get (components_of (structure m spot)) k ≡ Some c → Good c
  component_good Instance has k c found = form_good m.root (m.forms m.root) refl k c found
  component_good (Value p) has k c found = form_good p (m.forms p) refl k c found
  component_good (ListOf p i s) has k c found = item_good s.target (m.forms s.target) refl has k c found
  component_good (NumberOf p) has k c found = number_none (m.forms p) k c found

  -- what identifier octets begin is of such a type, and primitive where they are those of a primitive value
  pub begun_of : (spot : Spot P) → OfType Has spot → (came : List ℕ) (b : Bool) (t : Tag) (k : ℕ) (c : Component P) → identifier_answer (structure m spot) came b t ≡ Begins k c
      → OfType Has c.spot × (b ≡ false → IsPrimitiveSpot Has m c.spot)
  begun_of spot has came b t k c e =
      let r = begins_remains (structure m spot) came b t k c e in
      let good = component_good spot has k c r.0 in
      (good.0, λ primitive. good.1 (r.1 ∙ primitive))

module _ {P : Type 0} (m : DerMessage P) (sound : IsSoundDer m) (kinds : HaveKinds m.forms) where
  form_primitive : (p : P) (f : Form P Simple) → HasKind f → is_constructed f ≡ false → IsPrimitive (form_structure m.forms p f)
  form_primitive p (form.Simple simple) kind e = tt
  form_primitive p form.Envelope kind e = tt
  form_primitive p (form.Sequence slots) kind e = absurd cc
  form_primitive p (form.Choice slots) kind e = absurd cc
  form_primitive p (form.Money code number) kind e = absurd cc
  form_primitive p form.LeftOut kind e = absurd kind
  form_primitive p form.Missing kind e = absurd kind

  spot_primitive : (spot : Spot P) → IsPrimitiveSpot (λ p. HasKind (m.forms p)) m spot → IsPrimitive (structure m spot)
  spot_primitive (Value p) h = form_primitive p (m.forms p) h.1 h.0
  spot_primitive (NumberOf p) h = h
  spot_primitive Instance h = absurd h
  spot_primitive (ListOf p k s) h = absurd h

  -- what identifier octets begin is of such a kind, and holds contents where they are those of a primitive value
  pub begun_good : (spot : Spot P) → OfKind m spot → (came : List ℕ) (b : Bool) (t : Tag) (k : ℕ) (c : Component P) → identifier_answer (structure m spot) came b t ≡ Begins k c
      → OfKind m c.spot × (b ≡ false → IsPrimitive (structure m c.spot))
  begun_good spot kind came b t k c e =
      let r = begun_of m sound (λ p. HasKind (m.forms p)) (λ p simple e. subst (λ (f : Form P Simple). HasKind f) (sym e) tt) kinds spot kind came b t k c e in
      (r.0, λ primitive. spot_primitive c.spot (r.1 primitive))
