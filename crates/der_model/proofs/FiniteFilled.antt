-- Where each type has a structure, each value that may stand in an instance can be filled.
use Rattle.std.proofs.Common.{◌≡◌, ℕ, zero, suc, ◌+◌, ◌-◌, ◌<◌, Bool, true, false, List, [], ◌∷◌, length, replicate, Some, refl, sym, subst, arith, ◌⊎◌, inl, inr}
use Rattle.std.specs.Prelude.{slice_get, nat_lt}
use Rattle.std.specs.List.{AllByRecursion}
use Rattle.std.proofs.lemmas.List.{length-replicate}
use Rattle.facets.specs.declared.simple.Simple.{Simple}
use Rattle.der_octets.specs.Octets.{context, Values, Nothing, Primitive, Constructed}
use Rattle.reference_check.specs.Forms.{Graph, Form, Slot, form_slots}
use Rattle.reference_check.specs.Forms as form
use Rattle.reference_check.specs.Words.{UpTo}
use Rattle.reference_check.proofs.FiniteForms.{finite_in}
use Rattle.reference_check.specs.Shapes as shaped
use Rattle.reference_check.specs.Shapes.{IsFinite, AreFinite, IsReached, MayBeFound}
use Rattle.message_model.specs.Sound.{IsNoOption}
use Rattle.der_model.specs.DerMessage.{DerMessage}
use Rattle.der_model.specs.Structures.{Spot, Instance, Component, Structure, Fields, OneOf, Items, structure, form_structure, number_structure, component, components, item_components, amount_components, is_single, is_constructed, universal_tag, Unnamed}
use Rattle.der_model.specs.Structures as structures
use Rattle.der_model.specs.Sound.{IsSoundDer}
use Rattle.der_model.proofs.SoundMessages.{IsAmount, no_options, bounds_of, amounts_of}
use Rattle.der_model.specs.OpenParts.{MayHoldComponents, AreInOrder, components_of, IsPrimitive, ValuesSoFar, HasValues, IsFilled, AreFilled, Occurs, outermost, within}
use Rattle.der_model.proofs.PartsLaw.{component_values}
use Rattle.der_model.proofs.OneLevel.{up_to_same}

-- ---- the components of slots

component_there : {P : Type 0} (g : Graph P Simple) (p : P) (i j n : ℕ) (fs : List (Slot P)) (s : Slot P) → n ≡ i + j → slice_get fs j ≡ Some s → slice_get (components g p i fs) j ≡ Some (component g p n s)
component_there g p i j n [] s e found = absurd cc
component_there g p i zero n (f ∷ fs) s e found =
    let same : f ≡ s = cc in
    let at : n ≡ i = omega arith in
    rw (at, same) refl
component_there g p i (suc j) n (f ∷ fs) s e found = component_there g p (suc i) j n fs s (omega arith) found

component_is : {P : Type 0} (g : Graph P Simple) (p : P) (i j n : ℕ) (fs : List (Slot P)) (c : Component P) → n ≡ i + j → slice_get (components g p i fs) j ≡ Some c → (s : Slot P) × (slice_get fs j ≡ Some s) × (c ≡ component g p n s)
component_is g p i j n [] c e found = absurd cc
component_is g p i zero n (f ∷ fs) c e found =
    let same : component g p i f ≡ c = cc in
    let at : n ≡ i = omega arith in
    (f, refl, rw at (sym same))
component_is g p i (suc j) n (f ∷ fs) c e found = component_is g p (suc i) j n fs c (omega arith) found

none_needed : (n : ℕ) → n ≡ 0 → nat_lt 0 n ≡ false
none_needed n e = rw e refl

module _ {P : Type 0} (m : DerMessage P) (sound : IsSoundDer m) (finite : AreFinite m.forms m.root) where
  -- the type can be filled, under the tag of a slot
  abbrev pub TypeFilled : P → Type 0
  TypeFilled p = ((is_constructed (m.forms p) ≡ false) × IsPrimitive (structure m (structures.Value p))) ⊎ ((is_constructed (m.forms p) ≡ true) × HasValues m (structure m (structures.Value p)))

  some_items : (sh : Structure P) (n j : ℕ) (c : Component P) → slice_get (components_of sh) j ≡ Some c → IsFilled m c → (vs : Values) × ValuesSoFar m 0 sh (replicate n j) vs
  some_items sh zero j c found filled = (Nothing, tt)
  some_items sh (suc n) j c found filled = component_values m sh j c (replicate n j) found filled (some_items sh n j c found filled)

  one_value : (sh : Structure P) (j : ℕ) (vs : Values) → ValuesSoFar m 0 sh (j ∷ []) vs → (c : Component P) × (slice_get (components_of sh) j ≡ Some c) × IsFilled m c
  one_value sh j Nothing h = absurd h
  one_value sh j (Primitive t contents more) ((c, found, form, is, primitive, held), h) = (c, found, inl (form, primitive))
  one_value sh j (Constructed t inner more) ((c, found, form, is, held, may, so_far), h) = (c, found, inr (form, (held, inner, may, (let none : 0 - 1 ≡ 0 = omega arith in subst (λ z. ValuesSoFar m z (structure m c.spot) held inner) none so_far))))

  -- an item of a list of the type
  item_filled : (q : P) (f : Form P Simple) → m.forms q ≡ f → TypeFilled q → (j : ℕ) × (c : Component P) × (slice_get (item_components m.forms q f) j ≡ Some c) × IsFilled m c
  item_filled q (form.Choice fs) at (inl (plain, primitive)) = (let e : is_constructed (form.Choice fs) ≡ false = subst (λ (z : Form P Simple). is_constructed z ≡ false) at plain in absurd cc)
  item_filled q (form.Choice fs) at (inr (both, (held, inner, may, so_far))) =
      of_choice_values held (subst (λ (z : Form P Simple). MayHoldComponents (form_structure m.forms q z) held) at may) inner (subst (λ (z : Form P Simple). ValuesSoFar m 0 (form_structure m.forms q z) held inner) at so_far)
    where
      of_choice_values : (held : List ℕ) → (k : ℕ) × (held ≡ k ∷ []) → (inner : Values) → ValuesSoFar m 0 (OneOf (components m.forms q 0 fs)) held inner → (j : ℕ) × (c : Component P) × (slice_get (components m.forms q 0 fs) j ≡ Some c) × IsFilled m c
      of_choice_values held (k, e) inner h = (let r : (c : Component P) × (slice_get (components m.forms q 0 fs) k ≡ Some c) × IsFilled m c = one_value (OneOf (components m.forms q 0 fs)) k inner (subst (λ z. ValuesSoFar m 0 (OneOf (components m.forms q 0 fs)) z inner) e h) in (k, r.0, r.1, r.2))
  item_filled q (form.Sequence fs) at filled = (0, _, refl, subst (λ (z : Form P Simple). ((is_constructed z ≡ false) × IsPrimitive (structure m (structures.Value q))) ⊎ ((is_constructed z ≡ true) × HasValues m (structure m (structures.Value q)))) at filled)
  item_filled q (form.Simple s) at filled = (0, _, refl, subst (λ (z : Form P Simple). ((is_constructed z ≡ false) × IsPrimitive (structure m (structures.Value q))) ⊎ ((is_constructed z ≡ true) × HasValues m (structure m (structures.Value q)))) at filled)
  item_filled q (form.Money c s) at filled = (0, _, refl, subst (λ (z : Form P Simple). ((is_constructed z ≡ false) × IsPrimitive (structure m (structures.Value q))) ⊎ ((is_constructed z ≡ true) × HasValues m (structure m (structures.Value q)))) at filled)
  item_filled q form.Envelope at filled = (0, _, refl, subst (λ (z : Form P Simple). ((is_constructed z ≡ false) × IsPrimitive (structure m (structures.Value q))) ⊎ ((is_constructed z ≡ true) × HasValues m (structure m (structures.Value q)))) at filled)
  item_filled q form.LeftOut at filled = (0, _, refl, subst (λ (z : Form P Simple). ((is_constructed z ≡ false) × IsPrimitive (structure m (structures.Value q))) ⊎ ((is_constructed z ≡ true) × HasValues m (structure m (structures.Value q)))) at filled)
  item_filled q form.Missing at filled = (0, _, refl, subst (λ (z : Form P Simple). ((is_constructed z ≡ false) × IsPrimitive (structure m (structures.Value q))) ⊎ ((is_constructed z ≡ true) × HasValues m (structure m (structures.Value q)))) at filled)

  -- a list, with as few items as there may be
  list_filled : (s : Slot P) → UpTo s.min s.max → IsReached TypeFilled s → HasValues m (Items s (item_components m.forms s.target (m.forms s.target)))
  list_filled s bounds (inl none) = ([], Nothing, (omega arith, up_to_same s.min 0 s.max none bounds), tt)
  list_filled s bounds (inr filled) = of_item (item_filled s.target (m.forms s.target) refl filled)
    where
      of_item : ((j : ℕ) × (c : Component P) × (slice_get (item_components m.forms s.target (m.forms s.target)) j ≡ Some c) × IsFilled m c) → HasValues m (Items s (item_components m.forms s.target (m.forms s.target)))
      of_item (j, c, found, is) =
          let size : length (replicate s.min j) ≡ s.min = length-replicate s.min j in
          let v : (vs : Values) × ValuesSoFar m 0 (Items s (item_components m.forms s.target (m.forms s.target))) (replicate s.min j) vs = some_items (Items s (item_components m.forms s.target (m.forms s.target))) s.min j c found is in
          (replicate s.min j, v.0, (omega (arith, size), up_to_same s.min (length (replicate s.min j)) s.max (sym size) bounds), v.1)

  -- the component of a slot whose type can be filled
  slot_with : (p : P) (k : ℕ) (s : Slot P) → UpTo s.min s.max → TypeFilled s.target → IsFilled m (component m.forms p k s)
  slot_with p k s bounds filled = go (is_single s) refl
    where
      go : (b : Bool) → is_single s ≡ b → IsFilled m (component m.forms p k s)
      go true e = rw e filled
      go false e = rw e (inr (refl, list_filled s bounds (inr filled)))

  -- and of one that may be empty
  slot_without : (p : P) (k : ℕ) (s : Slot P) → UpTo s.min s.max → s.min ≡ 0 → ((component m.forms p k s).required ≡ false) ⊎ IsFilled m (component m.forms p k s)
  slot_without p k s bounds none = go (is_single s) refl
    where
      go : (b : Bool) → is_single s ≡ b → ((component m.forms p k s).required ≡ false) ⊎ IsFilled m (component m.forms p k s)
      go true e = inl (rw e (none_needed s.min none))
      go false e = inr (rw e (inr (refl, list_filled s bounds (inl none))))

  slot_either : (p : P) (k : ℕ) (s : Slot P) → UpTo s.min s.max → IsReached TypeFilled s → ((component m.forms p k s).required ≡ false) ⊎ IsFilled m (component m.forms p k s)
  slot_either p k s bounds (inl none) = slot_without p k s bounds none
  slot_either p k s bounds (inr filled) = inr (slot_with p k s bounds filled)

  abbrev FieldsFrom : P → List (Component P) → ℕ → List (Slot P) → Type 0
  FieldsFrom p all k fs = (held : List ℕ) × (vs : Values) × AreInOrder k (components m.forms p k fs) held × ValuesSoFar m 0 (Fields all) held vs

  one_field : (p : P) (all : List (Component P)) (k : ℕ) (s : Slot P) (fs : List (Slot P)) → slice_get all k ≡ Some (component m.forms p k s) → ((component m.forms p k s).required ≡ false) ⊎ IsFilled m (component m.forms p k s) → FieldsFrom p all (suc k) fs → FieldsFrom p all k (s ∷ fs)
  one_field p all k s fs found (inl free) (held, vs, order, h) = (held, vs, inr (free, order), h)
  one_field p all k s fs found (inr filled) (held, vs, order, h) =
      let v : (vs : Values) × ValuesSoFar m 0 (Fields all) (k ∷ held) vs = component_values m (Fields all) k (component m.forms p k s) held found filled (vs, h) in
      (k ∷ held, v.0, inl (held, refl, order), v.1)

  all_fields : (p : P) (all : List (Component P)) (k : ℕ) (fs : List (Slot P)) → ((i j : ℕ) (s : Slot P) → j ≡ k + i → slice_get fs i ≡ Some s → (slice_get all j ≡ Some (component m.forms p j s)) × UpTo s.min s.max) → AllByRecursion (IsReached TypeFilled) fs → FieldsFrom p all k fs
  all_fields p all k [] here h = ([], Nothing, refl, tt)
  all_fields p all k (s ∷ fs) here h =
      let at : (slice_get all k ≡ Some (component m.forms p k s)) × UpTo s.min s.max = here 0 k s (omega arith) refl in
      one_field p all k s fs at.0 (slot_either p k s at.1 h.0) (all_fields p all (suc k) fs (λ i j f e g. here (suc i) j f (omega arith) g) h.1)

  bounds_at : (p : P) (f : Form P Simple) (k : ℕ) (s : Slot P) → m.forms p ≡ f → slice_get (form_slots f) k ≡ Some s → UpTo s.min s.max
  bounds_at p f k s at = subst (λ (z : Form P Simple). slice_get (form_slots z) k ≡ Some s → UpTo s.min s.max) at (λ found. bounds_of m sound p k s found)

  least_at : (p : P) (f : Form P Simple) → m.forms p ≡ f → IsNoOption f
  least_at p f at = subst (λ (z : Form P Simple). IsNoOption z) at (no_options m sound p)

  code_primitive : (p c : P) (s : Simple) → m.forms p ≡ form.Money c s → IsPrimitive (structure m (structures.Value c))
  code_primitive p c s at = (let r : IsAmount m.forms (form.Money c s) = subst (λ (z : Form P Simple). IsAmount m.forms z) at (amounts_of m sound p) in go (r.1, r.2))
    where
      go : ((x : Simple) × (m.forms c ≡ form.Simple x)) → IsPrimitive (structure m (structures.Value c))
      go (x, e) = rw e tt

  -- a form that a round finds can be filled
  form_filled : (p : P) (f : Form P Simple) → m.forms p ≡ f → MayBeFound TypeFilled f → ((is_constructed f ≡ false) × IsPrimitive (form_structure m.forms p f)) ⊎ ((is_constructed f ≡ true) × HasValues m (form_structure m.forms p f))
  form_filled p (form.Sequence fs) at h =
      inr (refl, all_fields p (components m.forms p 0 fs) 0 fs (λ i j s e found. (let same : j ≡ i = omega arith in (rw same (component_there m.forms p 0 i i fs s (omega arith) found), bounds_at p (form.Sequence fs) i s at found))) h)
  form_filled p (form.Choice fs) at (k, s, found, inl none) = (let least : 0 < s.min = least_at p (form.Choice fs) at k s found in absurd (omega arith))
  form_filled p (form.Choice fs) at (k, s, found, inr filled) =
      let v : (vs : Values) × ValuesSoFar m 0 (OneOf (components m.forms p 0 fs)) (k ∷ []) vs = component_values m (OneOf (components m.forms p 0 fs)) k (component m.forms p k s) [] (component_there m.forms p 0 k k fs s (omega arith) found) (slot_with p k s (bounds_at p (form.Choice fs) k s at found) filled) (Nothing, tt) in
      inr (refl, (k ∷ [], v.0, (k, refl), v.1))
  form_filled p (form.Simple s) at h = inl (refl, tt)
  form_filled p (form.Money c s) at h =
      inr (
        refl,
        (
          0 ∷ 1 ∷ [],
          Primitive (context 0) [] (Primitive (context 1) [] Nothing),
          inl (1 ∷ [], refl, inl ([], refl, refl)),
          ((_, refl, refl, refl, code_primitive p c s at, λ some. absurd (omega arith)), ((_, refl, refl, refl, rw at tt, λ some. absurd (omega arith)), tt)),
        ),
      )
  form_filled p form.Envelope at h = inl (refl, tt)
  form_filled p form.LeftOut at h = absurd (finite.kinds p at)
  form_filled p form.Missing at h = absurd h

  type_filled : (p : P) → IsFinite m.forms p → TypeFilled p
  type_filled p = finite_in m.forms TypeFilled (λ p h. form_filled p (m.forms p) refl h) p

  -- ---- the values that may stand in an instance

  abbrev pub IsGood : Spot P → Type 0
  IsGood (structures.ListOf p k s) = IsFinite m.forms s.target
  IsGood (structures.Value p) = IsFinite m.forms p
  IsGood _ = Unit {0}

  abbrev Good : Component P → Type 0
  Good c = IsGood c.spot × IsFilled m c

  slot_good : (p : P) (k : ℕ) (s : Slot P) → UpTo s.min s.max → IsFinite m.forms s.target → Good (component m.forms p k s)
  slot_good p k s bounds f = (go (is_single s) refl, slot_with p k s bounds (type_filled s.target f))
    where
      go : (b : Bool) → is_single s ≡ b → IsGood (component m.forms p k s).spot
      go true e = rw e f
      go false e = rw e f

  target_at : (p : P) (f : Form P Simple) (k : ℕ) (s : Slot P) → m.forms p ≡ f → slice_get (form_slots f) k ≡ Some s → IsFinite m.forms s.target
  target_at p f k s at = subst (λ (z : Form P Simple). slice_get (form_slots z) k ≡ Some s → IsFinite m.forms s.target) at (λ found. finite.slots p k s found)

  slots_good : (p : P) (f : Form P Simple) (k : ℕ) (c : Component P) → m.forms p ≡ f → slice_get (components m.forms p 0 (form_slots f)) k ≡ Some c → Good c
  slots_good p f k c at found = go (component_is m.forms p 0 k k (form_slots f) c (omega arith) found)
    where
      go : ((s : Slot P) × (slice_get (form_slots f) k ≡ Some s) × (c ≡ component m.forms p k s)) → Good c
      go (s, there, e) = subst (λ (z : Component P). Good z) (sym e) (slot_good p k s (bounds_at p f k s at there) (target_at p f k s at there))

  amount_good : (p c : P) (s : Simple) (k : ℕ) (e : Component P) → m.forms p ≡ form.Money c s → slice_get (amount_components p c) k ≡ Some e → Good e
  amount_good p c s zero e at found =
      let same : record { constructed = false; tag = context 0; required = true; label = structures.Attribute (Rattle.std.specs.Prelude.codes "Ccy"); spot = structures.Value c } ≡ e = cc in
      subst (λ (z : Component P). Good z) same (code_finite, inl (refl, code_primitive p c s at))
    where
      code_finite : IsFinite m.forms c
      code_finite = (let r : IsAmount m.forms (form.Money c s) = subst (λ (z : Form P Simple). IsAmount m.forms z) at (amounts_of m sound p) in go (r.1, r.2))
        where
          go : ((x : Simple) × (m.forms c ≡ form.Simple x)) → IsFinite m.forms c
          go (x, e) = (shaped.OpenLeaf, rw e tt)
  amount_good p c s (suc zero) e at found =
      let same : record { constructed = false; tag = context 1; required = true; label = structures.Unnamed; spot = structures.NumberOf p } ≡ e = cc in
      subst (λ (z : Component P). Good z) same (tt, inl (refl, rw at tt))
  amount_good p c s (suc (suc k)) e at found = absurd cc

  form_good : (p : P) (f : Form P Simple) (k : ℕ) (c : Component P) → m.forms p ≡ f → slice_get (components_of (form_structure m.forms p f)) k ≡ Some c → Good c
  form_good p (form.Sequence fs) k c at found = slots_good p (form.Sequence fs) k c at found
  form_good p (form.Choice fs) k c at found = slots_good p (form.Choice fs) k c at found
  form_good p (form.Simple s) k c at found = absurd cc
  form_good p (form.Money e s) k c at found = amount_good p e s k c at found
  form_good p form.Envelope k c at found = absurd cc
  form_good p form.LeftOut k c at found = absurd cc
  form_good p form.Missing k c at found = absurd cc

  plain_good : (p : P) (f : Form P Simple) (k : ℕ) (c : Component P) → m.forms p ≡ f → IsFinite m.forms p → slice_get (record { constructed = is_constructed f; tag = universal_tag f; required = false; label = Unnamed; spot = structures.Value p } ∷ []) k ≡ Some c → Good c
  plain_good p f zero c at fin found =
      let same : record { constructed = is_constructed f; tag = universal_tag f; required = false; label = Unnamed; spot = structures.Value p } ≡ c = cc in
      subst (λ (z : Component P). Good z) same (fin, subst (λ (z : Form P Simple). ((is_constructed z ≡ false) × IsPrimitive (structure m (structures.Value p))) ⊎ ((is_constructed z ≡ true) × HasValues m (structure m (structures.Value p)))) at (type_filled p fin))
  plain_good p f (suc k) c at fin found = absurd cc

  item_good : (p : P) (f : Form P Simple) (k : ℕ) (c : Component P) → m.forms p ≡ f → IsFinite m.forms p → slice_get (item_components m.forms p f) k ≡ Some c → Good c
  item_good p (form.Choice fs) k c at fin found = slots_good p (form.Choice fs) k c at found
  item_good p (form.Sequence fs) k c at fin found = plain_good p (form.Sequence fs) k c at fin found
  item_good p (form.Simple s) k c at fin found = plain_good p (form.Simple s) k c at fin found
  item_good p (form.Money e s) k c at fin found = plain_good p (form.Money e s) k c at fin found
  item_good p form.Envelope k c at fin found = plain_good p form.Envelope k c at fin found
  item_good p form.LeftOut k c at fin found = plain_good p form.LeftOut k c at fin found
  item_good p form.Missing k c at fin found = plain_good p form.Missing k c at fin found

  number_good : (f : Form P Simple) (k : ℕ) (c : Component P) → slice_get (components_of (number_structure f)) k ≡ Some c → Good c
  number_good (form.Money e s) k c found = absurd cc
  number_good (form.Sequence fs) k c found = absurd cc
  number_good (form.Choice fs) k c found = absurd cc
  number_good (form.Simple s) k c found = absurd cc
  number_good form.Envelope k c found = absurd cc
  number_good form.LeftOut k c found = absurd cc
  number_good form.Missing k c found = absurd cc

  component_good : (spot : Spot P) (k : ℕ) (c : Component P) → IsGood spot → slice_get (components_of (structure m spot)) k ≡ Some c → Good c
  component_good Instance k c good found = form_good m.root (m.forms m.root) k c refl found
  component_good (structures.Value p) k c good found = form_good p (m.forms p) k c refl found
  component_good (structures.ListOf p i s) k c good found = item_good s.target (m.forms s.target) k c refl good found
  component_good (structures.NumberOf p) k c good found = number_good (m.forms p) k c found

  occurs_good : (spot : Spot P) → Occurs m spot → IsGood spot
  occurs_good _ outermost = tt
  occurs_good _ (within spot k c occurs found) = (component_good spot k c (occurs_good spot occurs) found).0

  root_values : ((fs : List (Slot P)) × (m.forms m.root ≡ form.Sequence fs)) → TypeFilled m.root → HasValues m (structure m Instance)
  root_values (fs, e) (inl (plain, primitive)) = (let q : is_constructed (form.Sequence fs) ≡ false = subst (λ (z : Form P Simple). is_constructed z ≡ false) e plain in absurd cc)
  root_values (fs, e) (inr (both, values)) = values

  pub finite_are_filled : AreFilled m
  finite_are_filled = record {
    instance = root_values sound.root (type_filled m.root finite.document);
    components = λ spot k c occurs found. (component_good spot k c (occurs_good spot occurs) found).1;
  }
