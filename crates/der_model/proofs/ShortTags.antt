-- The tags of an instance are short, and so are its lengths where the whole is.
use Rattle.std.proofs.Common.{◌≡◌, ◌≢◌, ℕ, suc, ◌+◌, ◌^◌, ◌<◌, Bool, true, false, List, [], ◌∷◌, length, Option, Some, None, refl, sym, subst, arith, eqb, ◌⊎◌, inl, inr, length-append}
use Rattle.std.specs.Prelude.{slice_get, if◌then◌else◌, ◌==◌}
use Rattle.std.proofs.lemmas.Bool.Decides.{eqb_tells}
use Rattle.std.proofs.lemmas.Bool.{cond-true, cond-false}
use Rattle.std.proofs.lemmas.Option.{slice_get_within}
use Rattle.data_types.specs.Value.{Value, Children}
use Rattle.data_types.specs.Value as value
use Rattle.data_types.specs.declared.kind.Kind.{Kind}
use Rattle.data_types.specs.declared.kind.Kind.TheVariants as kind
use Rattle.facets.specs.declared.simple.Simple.{Simple}
use Rattle.der_octets.specs.Octets.{Tag, context, Values, Nothing, Primitive, Constructed, then_values, octets, wrapped, identifier, IsShortTag}
use Rattle.reference_check.specs.Forms.{Graph, Form, Slot, form_slots}
use Rattle.reference_check.specs.Forms as form
use Rattle.message_model.specs.Admits.{numbers_of}
use Rattle.message_model.specs.Admits.{AdmitsAs, AdmitsChildren}
use Rattle.der_model.specs.DerMessage.{DerMessage}
use Rattle.der_model.specs.Structures.{is_single, kind_number, simple_number}
use Rattle.der_model.specs.Der.{Body, Octets, Inner, body, inner_of, under, item, placed_value, slot_values, all_slots, chosen_slot, alternative, values_at}
use Rattle.der_model.specs.inner.Conforms.{AreShort}
use Rattle.der_model.proofs.WholeValues.{length-wrapped}

-- all tags are short
abbrev pub HaveShortTags : Values → Type 0
HaveShortTags Nothing = Unit {0}
HaveShortTags (Primitive tag contents rest) = IsShortTag tag × HaveShortTags rest
HaveShortTags (Constructed tag inner rest) = IsShortTag tag × HaveShortTags inner × HaveShortTags rest

abbrev pub HasShortTags : Body → Type 0
HasShortTags (Octets o) = Unit {0}
HasShortTags (Inner vs) = HaveShortTags vs

-- each length is below the whole
pub short_lengths : (vs : Values) → HaveShortTags vs → length (octets vs) < 2 ^ 63 → AreShort vs
short_lengths Nothing t l = tt
short_lengths (Primitive tag contents rest) (t, more) l =
    let size = length-wrapped (identifier false tag) contents in
    let sum = length-append (wrapped (identifier false tag) contents) (octets rest) in
    (t, omega arith, short_lengths rest more (omega arith))
short_lengths (Constructed tag inner rest) (t, within, more) l =
    let size = length-wrapped (identifier true tag) (octets inner) in
    let sum = length-append (wrapped (identifier true tag) (octets inner)) (octets rest) in
    (t, omega arith, short_lengths inner within (omega arith), short_lengths rest more (omega arith))

then_short : (a b : Values) → HaveShortTags a → HaveShortTags b → HaveShortTags (then_values a b)
then_short Nothing b p q = q
then_short (Primitive tag contents rest) b p q = (p.0, then_short rest b p.1 q)
then_short (Constructed tag inner rest) b p q = (p.0, p.1, then_short rest b p.2 q)

under_short : (t : Tag) (b : Body) (rest : Values) → IsShortTag t → HasShortTags b → HaveShortTags rest → HaveShortTags (under t b rest)
under_short t (Octets o) rest p q r = (p, r)
under_short t (Inner vs) rest p q r = (p, q, r)

pub inner_short : (b : Body) → HasShortTags b → HaveShortTags (inner_of b)
inner_short (Octets o) h = tt
inner_short (Inner vs) h = h

kind_short : (k : Kind) → kind_number k < 2 ^ 14
kind_short kind.Text = omega arith
kind_short kind.Decimal = omega arith
kind_short kind.Boolean = omega arith
kind_short kind.Binary = omega arith
kind_short k = omega arith

simple_short : (k : Kind) (codes : Option (List (List ℕ))) → simple_number k codes < 2 ^ 14
simple_short kind.Text (Some texts) = omega arith
simple_short kind.Text None = omega arith
simple_short k codes = kind_short k

item_short : {P : Type 0} (f : Form P Simple) (b : Body) (rest : Values) → HasShortTags b → HaveShortTags rest → HaveShortTags (item f b rest)
item_short (form.Choice fs) b rest p q = then_short (inner_of b) rest (inner_short b p) q
item_short (form.Simple s) b rest p q = under_short _ b rest (simple_short s.kind s.codes) p q
item_short (form.Sequence fs) b rest p q = under_short _ b rest (omega arith) p q
item_short (form.Money c s) b rest p q = under_short _ b rest (omega arith) p q
item_short form.Envelope b rest p q = under_short _ b rest (omega arith) p q
item_short form.LeftOut b rest p q = under_short _ b rest (omega arith) p q
item_short form.Missing b rest p q = under_short _ b rest (omega arith) p q

placed_short : {P : Type 0} (g : Graph P Simple) (k : ℕ) (s : Slot P) (b : Body) (rest : Values) → k < 2 ^ 14 → HasShortTags b → HaveShortTags rest → HaveShortTags (placed_value g k s b rest)
placed_short g k s b rest low p q = go (is_single s)
  where
    go : (z : Bool) → HaveShortTags (if z then under (context k) b rest else item (g s.target) b rest)
    go true = under_short (context k) b rest low p q
    go false = item_short (g s.target) b rest p q

slot_short : {P : Type 0} (k : ℕ) (s : Slot P) (vs rest : Values) → k < 2 ^ 14 → HaveShortTags vs → HaveShortTags rest → HaveShortTags (slot_values k s vs rest)
slot_short k s vs rest low p q = go (is_single s)
  where
    go : (z : Bool) → HaveShortTags (if z then then_values vs rest else Constructed (context k) vs rest)
    go true = then_short vs rest p q
    go false = (low, p, q)

slots_short : {P : Type 0} (k : ℕ) (fs : List (Slot P)) (at : ℕ → Slot P → Values) → k + length fs < 2 ^ 14 → ((j : ℕ) (s : Slot P) (i : ℕ) → slice_get fs i ≡ Some s → j ≡ k + i → HaveShortTags (at j s)) → HaveShortTags (all_slots k fs at)
slots_short k [] at low each = tt
slots_short k (s ∷ fs) at low each = slot_short k s (at k s) (all_slots (suc k) fs at) (omega arith) (each k s 0 refl (omega arith)) (slots_short (suc k) fs at (omega arith) (λ j t i f e. each j t (suc i) f (omega (arith, e))))

alternative_short : {P : Type 0} (fs : List (Slot P)) (d : List ℕ) (at : ℕ → Slot P → Values) → length fs < 2 ^ 14 → ((j : ℕ) (s : Slot P) → slice_get fs j ≡ Some s → HaveShortTags (at j s)) → HaveShortTags (alternative fs d at)
alternative_short fs [] at low each = tt
alternative_short {P} fs (k ∷ d) at low each = go (slice_get fs k) refl
  where
    go : (o : Option (Slot P)) → slice_get fs k ≡ o → HaveShortTags (chosen_slot k o at)
    go None e = tt
    go (Some s) e = (let l = slice_get_within fs k s e in slot_short k s (at k s) Nothing (omega arith) (each k s e) tt)

child_short : {P : Type 0} (g : Graph P Simple) (fs : List (Slot P)) (k j : ℕ) (s t : Slot P) (b : Slot P → Body) (vs : Values) → k < 2 ^ 14 → slice_get fs k ≡ Some s → slice_get fs j ≡ Some t → HasShortTags (b t) → HaveShortTags vs → HaveShortTags (if j == k then placed_value g k s (b s) vs else vs)
child_short g fs k j s t b vs low here there p q = go (eqb_tells j k)
  where
    go : ((eqb j k ≡ true) × (j ≡ k)) ⊎ ((eqb j k ≡ false) × (j ≢ k)) → HaveShortTags (if j == k then placed_value g k s (b s) vs else vs)
    go (inl e) =
        let found : slice_get fs k ≡ Some t = subst (λ z. slice_get fs z ≡ Some t) e.1 there in
        let same : t ≡ s = cc in
        subst HaveShortTags (sym (cond-true (j == k) _ vs e.0)) (placed_short g k s (b s) vs low (subst (λ z. HasShortTags (b z)) same p) q)
    go (inr e) = subst HaveShortTags (sym (cond-false (j == k) _ vs e.0)) q

mutual
  pub value_short : {P : Type 0} (m : DerMessage P) → ((p : P) → length (form_slots (m.forms p)) < 2 ^ 14) → (p : P) (f : Form P Simple) (v : Value) → m.forms p ≡ f → AdmitsAs m.forms f v → HasShortTags (body m f v)
  value_short m few p (form.Sequence fs) (value.Component ks) at a =
      slots_short 0 fs (λ k s. values_at m k s ks) (let most : length fs < 2 ^ 14 = subst (λ z. length (form_slots z) < 2 ^ 14) at (few p) in omega arith)
      (λ j s i found e. let there : slice_get fs j ≡ Some s = subst (λ z. slice_get fs z ≡ Some s) (let q : i ≡ j = omega (arith, e) in q) found in
      children_short m few fs j s ks (let l = slice_get_within fs j s there in let most = subst (λ z. length (form_slots z) < 2 ^ 14) at (few p) in omega arith) there a.1)
  value_short m few p (form.Choice fs) (value.Component ks) at a =
      alternative_short fs (numbers_of ks) (λ k s. values_at m k s ks) (subst (λ z. length (form_slots z) < 2 ^ 14) at (few p))
      (λ j s there. children_short m few fs j s ks (let l = slice_get_within fs j s there in let most = subst (λ z. length (form_slots z) < 2 ^ 14) at (few p) in omega arith) there a.1)
  value_short m few p (form.Simple s) (value.Simple l) at a = tt
  value_short m few p (form.Money c s) (value.Amount l n) at a = (omega arith, (omega arith, tt))
  value_short m few p form.Envelope (value.External t) at a = tt
  value_short m few p (form.Sequence fs) v at a = absurd a
  value_short m few p (form.Choice fs) v at a = absurd a
  value_short m few p (form.Simple s) v at a = absurd a
  value_short m few p (form.Money c s) v at a = absurd a
  value_short m few p form.Envelope v at a = absurd a
  value_short m few p form.LeftOut v at a = absurd a
  value_short m few p form.Missing v at a = absurd a

  pub children_short : {P : Type 0} (m : DerMessage P) → ((p : P) → length (form_slots (m.forms p)) < 2 ^ 14) → (fs : List (Slot P)) (k : ℕ) (s : Slot P) (ks : Children) → k < 2 ^ 14 → slice_get fs k ≡ Some s → AdmitsChildren m.forms fs ks → HaveShortTags (values_at m k s ks)
  children_short m few fs k s value.Nothing low found a = tt
  children_short m few fs k s (value.Child j v rest) low found ((t, there, a), more) =
      child_short m.forms fs k j s t (λ u. body m (m.forms u.target) v) (values_at m k s rest) low found there (value_short m few t.target (m.forms t.target) v refl a) (children_short m few fs k s rest low found more)
