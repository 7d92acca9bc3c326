-- What may stand in a message's DER is the DER of an instance that the message admits.
use Rattle.std.proofs.Common.{◌≡◌, ℕ, zero, suc, ◌+◌, ◌≤◌, ◌<◌, Bool, true, false, List, [], ◌∷◌, length, replicate, Some, refl, sym, ap, ◌∙◌, subst, arith}
use Rattle.std.specs.Prelude.{◌==◌, slice_get}
use Rattle.std.proofs.lemmas.Bool.Decides.{nat_tests}
use Rattle.std.proofs.lemmas.Bool.{cond-true, cond-false}
use Rattle.data_types.specs.Value.{Value}
use Rattle.data_types.specs.Value as value
use Rattle.facets.specs.declared.simple.Simple.{Simple}
use Rattle.der_octets.specs.Octets.{Tag, context, Values, Nothing, Primitive, Constructed}
use Rattle.reference_check.specs.Forms.{Form, Slot}
use Rattle.reference_check.specs.Forms as form
use Rattle.reference_check.specs.Words.{UpTo, MayComeTimes}
use Rattle.reference_check.specs.Steps.{has_room}
use Rattle.message_model.specs.Admits.{numbers_of}
use Rattle.message_model.specs.Sound.{IsNoOption}
use Rattle.der_model.specs.DerMessage.{DerMessage}
use Rattle.der_model.specs.Structures.{Component, Fields, OneOf, Items, structure, form_structure, component, components, item_components, is_single, is_constructed, universal_tag}
use Rattle.der_model.specs.Structures as structures
use Rattle.der_model.specs.Der.{Body, Octets, Inner, under, item, slot_values, alternative, values_at}
use Rattle.der_model.specs.States.{Begins, is_under, any_answer, next_number}
use Rattle.der_model.specs.Faults.{IsHeldIn}
use Rattle.der_model.specs.inner.Conforms.{Conforms}
use Rattle.der_model.specs.Sound.{IsSoundDer}
use Rattle.der_model.proofs.SoundMessages.{HasBounds, no_options, bounds_of}
use Rattle.der_model.proofs.WholeValues.{under_same}
use Rattle.der_model.proofs.Spelled.{then_under, single_component, list_component, chosen_is}
use Rattle.der_model.proofs.ChildLists.{zero_upto}
use Rattle.der_model.proofs.BegunSlots.{any_slot, begun_slot}
use Rattle.der_model.proofs.FieldsDecoded.{FromBody, FromSlot, FromFields, body_of_octets, fields_step, form_false, one_value, one_within, fields_end}
use Rattle.der_model.proofs.AmountsDecoded.{body_of_values}
use Rattle.der_model.proofs.OneLevel.{room_less, ends_item, room_in}

-- the children of a list
pub record FromItems {P : Type 0} (m : DerMessage P) (fs : List (Slot P)) (k : ℕ) (s : Slot P) (before : ℕ) (vs : Values) : Type 0 where
  pub count : ℕ
  pub slot : FromSlot m fs k s count vs
  pub within : MayComeTimes (before + count) s

-- a value, as an item before others
item_added : {P : Type 0} (m : DerMessage P) (fs : List (Slot P)) (k : ℕ) (s : Slot P) (before : ℕ) (b : Body) (rest : Values) → slice_get fs k ≡ Some s → is_single s ≡ false → FromBody m (m.forms s.target) b → FromItems m fs k s (suc before) rest → FromItems m fs k s before (item (m.forms s.target) b rest)
item_added m fs k s before b rest there list from items = record {
  count = suc items.count;
  slot = record {
    children = value.Child k from.value items.slot.children;
    alike = ap (λ z. k ∷ z) items.slot.alike;
    admits = ((s, there, from.admits), items.slot.admits);
    written = cond-true (k == k) _ _ (own k) ∙ (cond-false (is_single s) _ _ list ∙ (ap (λ z. item (m.forms s.target) z (values_at m k s items.slot.children)) from.written ∙ ap (λ z. item (m.forms s.target) b z) items.slot.written));
  };
  within = subst (λ z. MayComeTimes z s) (let q : suc before + items.count ≡ before + suc items.count = omega arith in q) items.within;
}
  where
    own : (k : ℕ) → (k == k) ≡ true
    own k = grind (arith, nat_tests)

items_end : {P : Type 0} (m : DerMessage P) (fs : List (Slot P)) (k : ℕ) (s : Slot P) (before : ℕ) → s.min ≤ before → UpTo before s.max → FromItems m fs k s before Nothing
items_end m fs k s before low high = record {
  count = 0;
  slot = record { children = value.Nothing; alike = refl; admits = tt; written = refl };
  within = subst (λ z. MayComeTimes z s) (let q : before ≡ before + 0 = omega arith in q) (low, high);
}

-- a choice by the children of its alternative
choice_body : {P : Type 0} (m : DerMessage P) (fs : List (Slot P)) (k count : ℕ) (s : Slot P) (vs : Values) → slice_get fs k ≡ Some s → 0 < count → MayComeTimes count s → FromSlot m fs k s count vs → FromBody m (form.Choice fs) (Inner (slot_values k s vs Nothing))
choice_body {P} m fs k count s vs there some within slot = record {
  value = value.Component slot.children;
  admits = ((k, count, s, there, within, slot.alike), slot.admits);
  written = ap Inner (by count some slot.alike ∙ ap (λ z. slot_values k s z Nothing) slot.written);
}
  where
    by : (n : ℕ) → 0 < n → numbers_of slot.children ≡ replicate n k → alternative fs (numbers_of slot.children) (λ k s. values_at m k s slot.children) ≡ slot_values k s (values_at m k s slot.children) Nothing
    by zero low e = absurd (omega arith)
    by (suc n) low e = chosen_is fs (numbers_of slot.children) k n s (λ k s. values_at m k s slot.children) there e

-- the values under the tag of a slot
slot_body : {P : Type 0} (k : ℕ) (s : Slot P) (b : Body) (rest : Values) → is_single s ≡ true → slot_values k s (under (context k) b Nothing) rest ≡ under (context k) b rest
slot_body k s b rest e = cond-true (is_single s) _ _ e ∙ then_under (context k) b rest

list_body : {P : Type 0} (k : ℕ) (s : Slot P) (inner rest : Values) → is_single s ≡ false → slot_values k s inner rest ≡ Constructed (context k) inner rest
list_body k s inner rest e = cond-false (is_single s) _ _ e

-- what a component of a slot holds: a value, or a list
primitive_slot : {P : Type 0} (m : DerMessage P) (p : P) (fs : List (Slot P)) (k : ℕ) (s : Slot P) (c : Component P) (o : List ℕ) → slice_get fs k ≡ Some s → c ≡ component m.forms p k s → (component m.forms p k s).constructed ≡ false → IsHeldIn m (structure m c.spot) o
    → (is_single s ≡ true) × FromSlot m fs k s 1 (under (context k) (Octets o) Nothing) × FromBody m (m.forms s.target) (Octets o)
primitive_slot {P} m p fs k s c o there is form held =
    let f = form_false m p k s form in
    let held2 : IsHeldIn m (form_structure m.forms s.target (m.forms s.target)) o = subst (λ z. IsHeldIn m z o) (single_component m p k s f.0).1 (subst (λ (z : Component P). IsHeldIn m (structure m z.spot) o) is held) in
    let from = body_of_octets m s.target (m.forms s.target) o f.1 held2 in
    (f.0, one_value m fs k s (Octets o) there f.0 from, from)

-- a constructed component of a slot
constructed_slot : {P : Type 0} (m : DerMessage P) → IsSoundDer m → (p : P) (q : P) (fs : List (Slot P)) (k : ℕ) (s : Slot P) (c : Component P) (inner : Values) → m.forms q ≡ m.forms q → UpTo s.min s.max → slice_get fs k ≡ Some s → c ≡ component m.forms p k s → (component m.forms p k s).constructed ≡ true → Conforms m (structure m c.spot) [] inner
    → ((gs : List (Slot P)) → m.forms s.target ≡ form.Sequence gs → Conforms m (Fields (components m.forms s.target 0 gs)) [] inner → FromFields m gs 0 inner)
    → ((gs : List (Slot P)) → m.forms s.target ≡ form.Choice gs → Conforms m (OneOf (components m.forms s.target 0 gs)) [] inner → FromBody m (form.Choice gs) (Inner inner))
    → (is_single s ≡ false → Conforms m (Items s (item_components m.forms s.target (m.forms s.target))) [] inner → FromItems m fs k s 0 inner)
    → (count : ℕ) × (vs : Values) × FromSlot m fs k s count vs × MayComeTimes count s × ((rest : Values) → slot_values k s vs rest ≡ Constructed (context k) inner rest)
constructed_slot {P} m sound p q fs k s c inner same bounds there is form conf fields one items = go (is_single s) refl
  where
    go : (z : Bool) → is_single s ≡ z → (count : ℕ) × (vs : Values) × FromSlot m fs k s count vs × MayComeTimes count s × ((rest : Values) → slot_values k s vs rest ≡ Constructed (context k) inner rest)
    go true e =
        let c2 = single_component m p k s e in
        let conf2 : Conforms m (form_structure m.forms s.target (m.forms s.target)) [] inner = subst (λ z. Conforms m z [] inner) c2.1 (subst (λ (z : Component P). Conforms m (structure m z.spot) [] inner) is conf) in
        let from = body_of_values m sound s.target (m.forms s.target) inner refl (sym c2.0 ∙ form) conf2 fields one in
        (1, under (context k) (Inner inner) Nothing, one_value m fs k s (Inner inner) there e from, one_within s e bounds, λ rest. slot_body k s (Inner inner) rest e)
    go false e =
        let c2 = list_component m p k s e in
        let conf2 = subst (λ z. Conforms m z [] inner) c2.1 (subst (λ (z : Component P). Conforms m (structure m z.spot) [] inner) is conf) in
        let r = items e conf2 in
        (r.count, inner, r.slot, subst (λ z. MayComeTimes z s) (let q : 0 + r.count ≡ r.count = omega arith in q) r.within, λ rest. list_body k s inner rest e)

-- what an item begins with, where its type is no choice
plain_item : {P : Type 0} (m : DerMessage P) (target : P) (f : Form P Simple) (b : Bool) (t : Tag) (k : ℕ) (c : Component P)
    → any_answer 0 (record { constructed = is_constructed f; tag = universal_tag f; required = false; label = structures.Unnamed; spot = structures.Value target } ∷ []) b t ≡ Begins k c → (is_constructed f ≡ b) × (universal_tag f ≡ t) × (c.spot ≡ structures.Value target)
plain_item {P} m target f b t k c e = go (is_under d b t) refl
  where
    d : Component P
    d = record { constructed = is_constructed f; tag = universal_tag f; required = false; label = structures.Unnamed; spot = structures.Value target }

    spots : Begins 0 d ≡ Begins k c → d ≡ c
    spots e = cc

    go : (u : Bool) → is_under d b t ≡ u → (is_constructed f ≡ b) × (universal_tag f ≡ t) × (c.spot ≡ structures.Value target)
    go true h = (let u = under_same d b t h in (u.0, u.1, sym (ap (λ (z : Component P). z.spot) (spots (sym (cond-true (is_under d b t) _ _ h) ∙ e)))))
    go false h = absurd (let q = sym (cond-false (is_under d b t) _ _ h) ∙ e in cc)

-- an alternative of a choice
alternative_of : {P : Type 0} (m : DerMessage P) (p : P) (fs : List (Slot P)) (b : Bool) (t : Tag) (k : ℕ) (c : Component P) → any_answer 0 (components m.forms p 0 fs) b t ≡ Begins k c
    → (s : Slot P) × (slice_get fs k ≡ Some s) × (c ≡ component m.forms p k s) × ((component m.forms p k s).constructed ≡ b) × (context k ≡ t)
alternative_of {P} m p fs b t k c e =
    let r = any_slot m.forms p 0 fs b t k c e in
    let same = under_same c b t r.5 in
    let number : k ≡ r.0 = omega (arith, r.2) in
    (r.1, subst (λ z. slice_get fs z ≡ Some r.1) (sym number) r.3, r.4, sym (ap (λ (z : Component P). z.constructed) r.4) ∙ same.0, sym (ap (λ (z : Component P). z.tag) r.4) ∙ same.1)

no_more : {P : Type 0} (m : DerMessage P) (cs : List (Component P)) (k : ℕ) (came : List ℕ) (rest : Values) → Conforms m (OneOf cs) (k ∷ came) rest → rest ≡ Nothing
no_more m cs k came Nothing h = refl
no_more m cs k came (Primitive t o rest) (x, y, z, w, v) = absurd cc
no_more m cs k came (Constructed t i rest) (x, y, z, w, v) = absurd cc

-- a choice whose alternative is primitive
primitive_choice : {P : Type 0} (m : DerMessage P) → IsSoundDer m → (p : P) (fs : List (Slot P)) (k : ℕ) (c : Component P) (t : Tag) (o : List ℕ) → m.forms p ≡ form.Choice fs → any_answer 0 (components m.forms p 0 fs) false t ≡ Begins k c → IsHeldIn m (structure m c.spot) o → FromBody m (form.Choice fs) (Inner (Primitive t o Nothing))
primitive_choice m sound p fs k c t o at e held =
    let a = alternative_of m p fs false t k c e in
    let r = primitive_slot m p fs k a.0 c o a.1 a.2 a.3 held in
    let bounds = subst HasBounds at (bounds_of m sound p) k a.0 a.1 in
    let made = choice_body m fs k 1 a.0 (under (context k) (Octets o) Nothing) a.1 (omega arith) (one_within a.0 r.0 bounds) r.1 in
    subst (λ z. FromBody m (form.Choice fs) (Inner z)) (slot_body k a.0 (Octets o) Nothing r.0 ∙ ap (λ z. Primitive z o Nothing) a.4) made

-- an item by its form
item_of : {P : Type 0} (m : DerMessage P) (fs : List (Slot P)) (k : ℕ) (s : Slot P) (f : Form P Simple) (before : ℕ) (b : Body) (rest vs : Values) → slice_get fs k ≡ Some s → is_single s ≡ false → m.forms s.target ≡ f → FromBody m f b → FromItems m fs k s (suc before) rest → item f b rest ≡ vs → FromItems m fs k s before vs
item_of m fs k s f before b rest vs there list at from items e =
    subst (FromItems m fs k s before) (ap (λ z. item z b rest) at ∙ e) (item_added m fs k s before b rest there list (subst (λ z. FromBody m z b) (sym at) from) items)

item_primitive : {P : Type 0} (m : DerMessage P) → IsSoundDer m → (fs : List (Slot P)) (k : ℕ) (s : Slot P) (f : Form P Simple) (before : ℕ) (tag : Tag) (o : List ℕ) (rest : Values) (q : ℕ) (c : Component P) → slice_get fs k ≡ Some s → is_single s ≡ false → m.forms s.target ≡ f
    → any_answer 0 (item_components m.forms s.target f) false tag ≡ Begins q c → IsHeldIn m (structure m c.spot) o → FromItems m fs k s (suc before) rest → FromItems m fs k s before (Primitive tag o rest)
item_primitive {P} m sound fs k s f before tag o rest q c there list at begins held items = go f at begins
  where
    plain : (f : Form P Simple) → m.forms s.target ≡ f → any_answer 0 (record { constructed = is_constructed f; tag = universal_tag f; required = false; label = structures.Unnamed; spot = structures.Value s.target } ∷ []) false tag ≡ Begins q c
        → (FromBody m f (Octets o) → universal_tag f ≡ tag → FromItems m fs k s before (Primitive tag o rest)) → FromItems m fs k s before (Primitive tag o rest)
    plain f at e made =
        let r = plain_item m s.target f false tag q c e in
        let held2 : IsHeldIn m (form_structure m.forms s.target f) o = subst (λ z. IsHeldIn m (form_structure m.forms s.target z) o) at (subst (λ z. IsHeldIn m (structure m z) o) r.2 held) in
        made (body_of_octets m s.target f o r.0 held2) r.1

    go : (f : Form P Simple) → m.forms s.target ≡ f → any_answer 0 (item_components m.forms s.target f) false tag ≡ Begins q c → FromItems m fs k s before (Primitive tag o rest)
    go (form.Choice gs) at e = item_of m fs k s (form.Choice gs) before (Inner (Primitive tag o Nothing)) rest (Primitive tag o rest) there list at (primitive_choice m sound s.target gs q c tag o at e held) items refl
    go (form.Sequence gs) at e = plain (form.Sequence gs) at e (λ from t. item_of m fs k s (form.Sequence gs) before (Octets o) rest (Primitive tag o rest) there list at from items (ap (λ z. Primitive z o rest) t))
    go (form.Simple x) at e = plain (form.Simple x) at e (λ from t. item_of m fs k s (form.Simple x) before (Octets o) rest (Primitive tag o rest) there list at from items (ap (λ z. Primitive z o rest) t))
    go (form.Money d x) at e = plain (form.Money d x) at e (λ from t. item_of m fs k s (form.Money d x) before (Octets o) rest (Primitive tag o rest) there list at from items (ap (λ z. Primitive z o rest) t))
    go form.Envelope at e = plain form.Envelope at e (λ from t. item_of m fs k s form.Envelope before (Octets o) rest (Primitive tag o rest) there list at from items (ap (λ z. Primitive z o rest) t))
    go form.LeftOut at e = plain form.LeftOut at e (λ from t. item_of m fs k s form.LeftOut before (Octets o) rest (Primitive tag o rest) there list at from items (ap (λ z. Primitive z o rest) t))
    go form.Missing at e = plain form.Missing at e (λ from t. item_of m fs k s form.Missing before (Octets o) rest (Primitive tag o rest) there list at from items (ap (λ z. Primitive z o rest) t))

abbrev ReadsFields : {P : Type 0} → DerMessage P → Values → Type 0
ReadsFields {P} m inner = (p : P) (gs : List (Slot P)) → m.forms p ≡ form.Sequence gs → Conforms m (Fields (components m.forms p 0 gs)) [] inner → FromFields m gs 0 inner

abbrev ReadsOne : {P : Type 0} → DerMessage P → Values → Type 0
ReadsOne {P} m inner = (p : P) (gs : List (Slot P)) → m.forms p ≡ form.Choice gs → Conforms m (OneOf (components m.forms p 0 gs)) [] inner → FromBody m (form.Choice gs) (Inner inner)

abbrev ReadsItems : {P : Type 0} → DerMessage P → Values → Type 0
ReadsItems {P} m inner = (gs : List (Slot P)) (k : ℕ) (s : Slot P) → slice_get gs k ≡ Some s → is_single s ≡ false → UpTo s.min s.max → Conforms m (Items s (item_components m.forms s.target (m.forms s.target))) [] inner → FromItems m gs k s 0 inner

constructed_choice : {P : Type 0} (m : DerMessage P) → IsSoundDer m → (p : P) (fs : List (Slot P)) (k : ℕ) (c : Component P) (t : Tag) (inner : Values) → m.forms p ≡ form.Choice fs → any_answer 0 (components m.forms p 0 fs) true t ≡ Begins k c → Conforms m (structure m c.spot) [] inner
    → ReadsFields m inner → ReadsOne m inner → ReadsItems m inner → FromBody m (form.Choice fs) (Inner (Constructed t inner Nothing))
constructed_choice m sound p fs k c t inner at e held fields one items =
    let a = alternative_of m p fs true t k c e in
    let bounds = subst HasBounds at (bounds_of m sound p) k a.0 a.1 in
    let r = constructed_slot m sound p p fs k a.0 c inner refl bounds a.1 a.2 a.3 held (λ gs e conf. fields a.0.target gs e conf) (λ gs e conf. one a.0.target gs e conf) (λ e conf. items fs k a.0 a.1 e bounds conf) in
    let some : 0 < a.0.min = subst IsNoOption at (no_options m sound p) k a.0 a.1 in
    let made = choice_body m fs k r.0 a.0 r.1 a.1 (omega (arith, r.3.0)) r.3 r.2 in
    subst (λ z. FromBody m (form.Choice fs) (Inner z)) (r.4 Nothing ∙ ap (λ z. Constructed z inner Nothing) a.4) made

item_constructed : {P : Type 0} (m : DerMessage P) → IsSoundDer m → (fs : List (Slot P)) (k : ℕ) (s : Slot P) (f : Form P Simple) (before : ℕ) (tag : Tag) (inner rest : Values) (q : ℕ) (c : Component P) → slice_get fs k ≡ Some s → is_single s ≡ false → m.forms s.target ≡ f
    → any_answer 0 (item_components m.forms s.target f) true tag ≡ Begins q c → Conforms m (structure m c.spot) [] inner → ReadsFields m inner → ReadsOne m inner → ReadsItems m inner → FromItems m fs k s (suc before) rest → FromItems m fs k s before (Constructed tag inner rest)
item_constructed {P} m sound fs k s f before tag inner rest q c there list at begins held fields one items more = go f at begins
  where
    plain : (f : Form P Simple) → m.forms s.target ≡ f → any_answer 0 (record { constructed = is_constructed f; tag = universal_tag f; required = false; label = structures.Unnamed; spot = structures.Value s.target } ∷ []) true tag ≡ Begins q c
        → (FromBody m f (Inner inner) → universal_tag f ≡ tag → FromItems m fs k s before (Constructed tag inner rest)) → FromItems m fs k s before (Constructed tag inner rest)
    plain f at e made =
        let r = plain_item m s.target f true tag q c e in
        let conf : Conforms m (form_structure m.forms s.target f) [] inner = subst (λ z. Conforms m (form_structure m.forms s.target z) [] inner) at (subst (λ z. Conforms m (structure m z) [] inner) r.2 held) in
        made (body_of_values m sound s.target f inner at r.0 conf (λ gs e conf. fields s.target gs e conf) (λ gs e conf. one s.target gs e conf)) r.1

    go : (f : Form P Simple) → m.forms s.target ≡ f → any_answer 0 (item_components m.forms s.target f) true tag ≡ Begins q c → FromItems m fs k s before (Constructed tag inner rest)
    go (form.Choice gs) at e = item_of m fs k s (form.Choice gs) before (Inner (Constructed tag inner Nothing)) rest (Constructed tag inner rest) there list at (constructed_choice m sound s.target gs q c tag inner at e held fields one items) more refl
    go (form.Sequence gs) at e = plain (form.Sequence gs) at e (λ from t. item_of m fs k s (form.Sequence gs) before (Inner inner) rest (Constructed tag inner rest) there list at from more (ap (λ z. Constructed z inner rest) t))
    go (form.Simple x) at e = plain (form.Simple x) at e (λ from t. item_of m fs k s (form.Simple x) before (Inner inner) rest (Constructed tag inner rest) there list at from more (ap (λ z. Constructed z inner rest) t))
    go (form.Money d x) at e = plain (form.Money d x) at e (λ from t. item_of m fs k s (form.Money d x) before (Inner inner) rest (Constructed tag inner rest) there list at from more (ap (λ z. Constructed z inner rest) t))
    go form.Envelope at e = plain form.Envelope at e (λ from t. item_of m fs k s form.Envelope before (Inner inner) rest (Constructed tag inner rest) there list at from more (ap (λ z. Constructed z inner rest) t))
    go form.LeftOut at e = plain form.LeftOut at e (λ from t. item_of m fs k s form.LeftOut before (Inner inner) rest (Constructed tag inner rest) there list at from more (ap (λ z. Constructed z inner rest) t))
    go form.Missing at e = plain form.Missing at e (λ from t. item_of m fs k s form.Missing before (Inner inner) rest (Constructed tag inner rest) there list at from more (ap (λ z. Constructed z inner rest) t))

mutual
  pub fields_from : {P : Type 0} (m : DerMessage P) → IsSoundDer m → (p : P) (fs : List (Slot P)) (n : ℕ) (came : List ℕ) (vs : Values) → m.forms p ≡ form.Sequence fs → next_number came ≡ n → Conforms m (Fields (components m.forms p 0 fs)) came vs → FromFields m fs n vs
  fields_from m sound p fs n came Nothing at next e = fields_end m p fs n came next e
  fields_from m sound p fs n came (Primitive tag o rest) at next (k, c, begins, held, more) =
      let b = begun_slot m p fs n came false tag k c next begins in
      let r = primitive_slot m p fs k b.slot c o b.there b.is b.form held in
      let bounds = subst HasBounds at (bounds_of m sound p) k b.slot b.there in
      let step = fields_step m p fs n k b.off b.slot 1 (under (context k) (Octets o) Nothing) rest b.number b.there b.room b.free r.1 (one_within b.slot r.0 bounds) (fields_from m sound p fs (suc k) (k ∷ came) rest at refl more) in
      subst (FromFields m fs n) (slot_body k b.slot (Octets o) rest r.0 ∙ ap (λ z. Primitive z o rest) b.tag) step
  fields_from m sound p fs n came (Constructed tag inner rest) at next (k, c, begins, held, more) =
      let b = begun_slot m p fs n came true tag k c next begins in
      let bounds = subst HasBounds at (bounds_of m sound p) k b.slot b.there in
      let r = constructed_slot m sound p p fs k b.slot c inner refl bounds b.there b.is b.form held
      (λ gs e conf. fields_from m sound b.slot.target gs 0 [] inner e refl conf) (λ gs e conf. one_from m sound b.slot.target gs inner e conf)
      (λ e conf. items_from m sound fs k b.slot (m.forms b.slot.target) [] inner b.there e bounds refl (zero_upto b.slot.max) conf) in
      let step = fields_step m p fs n k b.off b.slot r.0 r.1 rest b.number b.there b.room b.free r.2 r.3 (fields_from m sound p fs (suc k) (k ∷ came) rest at refl more) in
      subst (FromFields m fs n) (r.4 rest ∙ ap (λ z. Constructed z inner rest) b.tag) step

  pub one_from : {P : Type 0} (m : DerMessage P) → IsSoundDer m → (p : P) (fs : List (Slot P)) (vs : Values) → m.forms p ≡ form.Choice fs → Conforms m (OneOf (components m.forms p 0 fs)) [] vs → FromBody m (form.Choice fs) (Inner vs)
  one_from m sound p fs Nothing at e = absurd cc
  one_from m sound p fs (Primitive tag o rest) at (k, c, begins, held, more) =
      subst (λ z. FromBody m (form.Choice fs) (Inner (Primitive tag o z))) (sym (no_more m (components m.forms p 0 fs) k [] rest more)) (primitive_choice m sound p fs k c tag o at begins held)
  one_from m sound p fs (Constructed tag inner rest) at (k, c, begins, held, more) =
      subst (λ z. FromBody m (form.Choice fs) (Inner (Constructed tag inner z))) (sym (no_more m (components m.forms p 0 fs) k [] rest more))
      (constructed_choice m sound p fs k c tag inner at begins held (λ p gs e conf. fields_from m sound p gs 0 [] inner e refl conf) (λ p gs e conf. one_from m sound p gs inner e conf)
      (λ gs k s there list bounds conf. items_from m sound gs k s (m.forms s.target) [] inner there list bounds refl (zero_upto s.max) conf))

  pub items_from : {P : Type 0} (m : DerMessage P) → IsSoundDer m → (fs : List (Slot P)) (k : ℕ) (s : Slot P) (f : Form P Simple) (came : List ℕ) (vs : Values) → slice_get fs k ≡ Some s → is_single s ≡ false → UpTo s.min s.max → m.forms s.target ≡ f → UpTo (length came) s.max
      → Conforms m (Items s (item_components m.forms s.target f)) came vs → FromItems m fs k s (length came) vs
  items_from m sound fs k s f came Nothing there list bounds at high e = items_end m fs k s (length came) (ends_item (length came) s.min e) high
  items_from m sound fs k s f came (Primitive tag o rest) there list bounds at high (q, c, begins, held, more) =
      let b = room_in (has_room (length came) s.max) (any_answer 0 (item_components m.forms s.target f) false tag) q c begins in
      item_primitive m sound fs k s f (length came) tag o rest q c there list at b.1 held (items_from m sound fs k s f (q ∷ came) rest there list bounds at (room_less (length came) s.max b.0) more)
  items_from m sound fs k s f came (Constructed tag inner rest) there list bounds at high (q, c, begins, held, more) =
      let b = room_in (has_room (length came) s.max) (any_answer 0 (item_components m.forms s.target f) true tag) q c begins in
      item_constructed m sound fs k s f (length came) tag inner rest q c there list at b.1 held (λ p gs e conf. fields_from m sound p gs 0 [] inner e refl conf) (λ p gs e conf. one_from m sound p gs inner e conf)
      (λ gs k s there list bounds conf. items_from m sound gs k s (m.forms s.target) [] inner there list bounds refl (zero_upto s.max) conf)
      (items_from m sound fs k s f (q ∷ came) rest there list bounds at (room_less (length came) s.max b.0) more)
