-- The children of slots in order, from the values that may stand there.
use Rattle.std.proofs.Common.{◌≡◌, ℕ, zero, suc, ◌+◌, ◌≤◌, ◌<◌, Bool, true, false, List, [], ◌∷◌, length, replicate, drop, Option, Some, None, refl, sym, ap, ◌∙◌, subst, arith, ◌⊎◌, inl, inr, drop-drop}
use Rattle.std.specs.Prelude.{◌==◌, slice_get}
use Rattle.std.proofs.lemmas.Bool.Decides.{nat_tests}
use Rattle.std.proofs.lemmas.Bool.{cond-true, cond-false}
use Rattle.std.proofs.lemmas.Option.{slice_get_within}
use Rattle.lexical_core.proofs.Tests.{compared}
use Rattle.data_types.specs.Value.{Value, Children}
use Rattle.data_types.specs.Value as value
use Rattle.facets.specs.declared.simple.Simple.{Simple}
use Rattle.der_octets.specs.Octets.{context, Values, Nothing}
use Rattle.reference_check.specs.Forms.{Graph, Form, Slot}
use Rattle.reference_check.specs.Forms as form
use Rattle.reference_check.specs.Words.{times, UpTo, MayComeTimes, IsOrderedFrom}
use Rattle.reference_check.proofs.Words.{times-replicate, times-append}
use Rattle.message_model.specs.Admits.{numbers_of}
use Rattle.message_model.specs.Admits.{AdmitsAs, AdmitsChildren}
use Rattle.der_model.specs.DerMessage.{DerMessage}
use Rattle.der_model.specs.Structures.{form_structure, component, components, is_once, is_single, is_constructed}
use Rattle.der_model.specs.Der.{Body, Octets, under, slot_values, all_slots, body, values_at}
use Rattle.der_model.specs.States.{Fine, field_end, next_number}
use Rattle.der_model.specs.Faults.{IsHeldIn}
use Rattle.der_model.proofs.ContentsLaws.{contents_are_written}
use Rattle.der_model.proofs.ChildLists.{then_children, slots_then, admits_then, values_own, values_other, values_none, times_none, ordered_then, slots_skip, slots_congr, times_other, free_slot, zero_upto}
use Rattle.der_model.proofs.BegunSlots.{drop_get, get_drop, drop_components, apart_by, put_drop}

-- what a form's body decodes to
pub record FromBody {P : Type 0} (m : DerMessage P) (f : Form P Simple) (b : Body) : Type 0 where
  pub value : Value
  pub admits : AdmitsAs m.forms f value
  pub written : body m f value ≡ b

-- the children of one slot
pub record FromSlot {P : Type 0} (m : DerMessage P) (fs : List (Slot P)) (k : ℕ) (s : Slot P) (count : ℕ) (vs : Values) : Type 0 where
  pub children : Children
  pub alike : numbers_of children ≡ replicate count k
  pub admits : AdmitsChildren m.forms fs children
  pub written : values_at m k s children ≡ vs

-- the children of the slots from one on
pub record FromFields {P : Type 0} (m : DerMessage P) (fs : List (Slot P)) (n : ℕ) (vs : Values) : Type 0 where
  pub children : Children
  pub ordered : IsOrderedFrom n (length fs) (numbers_of children)
  pub admits : AdmitsChildren m.forms fs children
  pub within : (k : ℕ) (s : Slot P) → n ≤ k → slice_get fs k ≡ Some s → MayComeTimes (times k (numbers_of children)) s
  pub written : vs ≡ all_slots n (drop n fs) (λ k s. values_at m k s children)

-- contents decode to a value of a primitive form
pub body_of_octets : {P : Type 0} (m : DerMessage P) (p : P) (f : Form P Simple) (o : List ℕ) → is_constructed f ≡ false → IsHeldIn m (form_structure m.forms p f) o → FromBody m f (Octets o)
body_of_octets m p (form.Simple s) o e (l, h) = record { value = value.Simple l; admits = h.1; written = ap Octets (sym (contents_are_written s.kind s.codes o l h.0)) }
body_of_octets m p form.Envelope o e (tree, plain, is) = record { value = value.External tree; admits = plain; written = ap Octets (sym is) }
body_of_octets m p (form.Sequence fs) o e h = absurd h
body_of_octets m p (form.Choice fs) o e h = absurd h
body_of_octets m p (form.Money c s) o e h = absurd h
body_of_octets m p form.LeftOut o e h = absurd h
body_of_octets m p form.Missing o e h = absurd h

-- one slot with its values, and those behind it
pub fields_step : {P : Type 0} (m : DerMessage P) (p : P) (fs : List (Slot P)) (n k off : ℕ) (s : Slot P) (count : ℕ) (vs rest : Values)
    → k ≡ n + off → slice_get fs k ≡ Some s → off ≤ length (drop n fs) → ((i : ℕ) (u : Slot P) → n ≤ i → i < k → slice_get fs i ≡ Some u → (is_single u ≡ true) × (u.min ≡ 0))
    → FromSlot m fs k s count vs → MayComeTimes count s → FromFields m fs (suc k) rest → FromFields m fs n (slot_values k s vs rest)
fields_step {P} m p fs n k off s count vs rest number there room free slot within fields = record {
  children = then_children a b;
  ordered = subst (IsOrderedFrom n (length fs)) (sym (slots_then a b)) (ordered_then count n k (length fs) (numbers_of a) (numbers_of b) slot.alike (omega arith) below fields.ordered);
  admits = admits_then m.forms fs a b slot.admits fields.admits;
  within = λ i u l f. each i u l f (compared i k);
  written = sym all;
}
  where
    a : Children
    a = slot.children

    b : Children
    b = fields.children

    below : k < length fs
    below = slice_get_within fs k s there

    counts : (i : ℕ) → times i (numbers_of (then_children a b)) ≡ times i (numbers_of a) + times i (numbers_of b)
    counts i = ap (times i) (slots_then a b) ∙ times-append i (numbers_of a) (numbers_of b)

    each : (i : ℕ) (u : Slot P) → n ≤ i → slice_get fs i ≡ Some u → (i < k) ⊎ ((i ≡ k) ⊎ (k < i)) → MayComeTimes (times i (numbers_of (then_children a b))) u
    each i u l f (inl h) =
        let one : times i (numbers_of a) ≡ 0 = ap (times i) slot.alike ∙ times_other i k count (λ e. absurd (omega arith)) in
        let two : times i (numbers_of b) ≡ 0 = times_none (suc k) (length fs) i (numbers_of b) fields.ordered (omega arith) in
        let c = counts i in
        let zero_count : times i (numbers_of (then_children a b)) ≡ 0 = omega arith in
        let d = free i u l h f in
        subst (λ z. MayComeTimes z u) (sym zero_count) (omega (arith, d.1), zero_upto u.max)
    each i u l f (inr (inl h)) =
        let one : times i (numbers_of a) ≡ count = ap (times i) slot.alike ∙ (ap (λ z. times z (replicate count k)) h ∙ times-replicate k count) in
        let two : times i (numbers_of b) ≡ 0 = times_none (suc k) (length fs) i (numbers_of b) fields.ordered (omega arith) in
        let c = counts i in
        let same : times i (numbers_of (then_children a b)) ≡ count = omega arith in
        let found : slice_get fs k ≡ Some u = subst (λ z. slice_get fs z ≡ Some u) h f in
        let slots : s ≡ u = cc in
        subst (λ z. MayComeTimes z u) (sym same) (subst (MayComeTimes count) slots within)
    each i u l f (inr (inr h)) =
        let one : times i (numbers_of a) ≡ 0 = ap (times i) slot.alike ∙ times_other i k count (λ e. absurd (omega arith)) in
        let c = counts i in
        let same : times i (numbers_of (then_children a b)) ≡ times i (numbers_of b) = omega arith in
        subst (λ z. MayComeTimes z u) (sym same) (fields.within i u (omega arith) f)

    all : all_slots n (drop n fs) (λ k s. values_at m k s (then_children a b)) ≡ slot_values k s vs rest
    all =
        slots_skip n off (drop n fs) (λ k s. values_at m k s (then_children a b))
        (λ i u l f. let g = get_drop n i fs u f in (
          (free (n + i) u (omega arith) (omega arith) g).0,
          values_other m (n + i) k count u a b slot.alike (λ e. absurd (omega arith)) ∙ values_none m (suc k) (length fs) (n + i) u b fields.ordered (omega arith),
        )) room
        ∙ (ap (λ z. all_slots (n + off) z (λ k s. values_at m k s (then_children a b))) (drop-drop off n fs)
        ∙ (ap (λ z. all_slots z (drop z fs) (λ k s. values_at m k s (then_children a b))) (sym number)
        ∙ (ap (λ z. all_slots k z (λ k s. values_at m k s (then_children a b))) (drop_get fs k s there)
        ∙ (ap (λ z. slot_values k s z (all_slots (suc k) (drop (suc k) fs) (λ k s. values_at m k s (then_children a b)))) (values_own m k count s a b slot.alike (values_none m (suc k) (length fs) k s b fields.ordered (omega arith)) ∙ slot.written)
        ∙ ap (λ z. slot_values k s vs z) (slots_congr (suc k) (drop (suc k) fs) _ _ (λ j t l. values_other m j k count t a b slot.alike (λ e. absurd (omega arith))) ∙ sym fields.written)))))

-- the component of a slot, by its form
pub form_false : {P : Type 0} (m : DerMessage P) (p : P) (k : ℕ) (s : Slot P) → (component m.forms p k s).constructed ≡ false → (is_single s ≡ true) × (is_constructed (m.forms s.target) ≡ false)
form_false m p k s e = go (is_single s) refl
  where
    go : (z : Bool) → is_single s ≡ z → (is_single s ≡ true) × (is_constructed (m.forms s.target) ≡ false)
    go true h = (h, sym (cond-true (is_single s) (is_constructed (m.forms s.target)) true h) ∙ e)
    go false h = absurd (let q : true ≡ false = sym (cond-false (is_single s) (is_constructed (m.forms s.target)) true h) ∙ e in cc)

-- a value in a slot that comes at most once
pub one_value : {P : Type 0} (m : DerMessage P) (fs : List (Slot P)) (k : ℕ) (s : Slot P) (b : Body) → slice_get fs k ≡ Some s → is_single s ≡ true → FromBody m (m.forms s.target) b → FromSlot m fs k s 1 (under (context k) b Nothing)
one_value m fs k s b there single from = record {
  children = value.Child k from.value value.Nothing;
  alike = refl;
  admits = ((s, there, from.admits), tt);
  written = cond-true (k == k) _ _ (own k) ∙ (cond-true (is_single s) _ _ single ∙ ap (λ z. under (context k) z Nothing) from.written);
}
  where
    own : (k : ℕ) → (k == k) ≡ true
    own k = grind (arith, nat_tests)

-- such a slot may come once
pub one_within : {P : Type 0} (s : Slot P) → is_single s ≡ true → UpTo s.min s.max → MayComeTimes 1 s
one_within s e u = go s.max e u
  where
    go : (o : Option ℕ) → is_once o ≡ true → UpTo s.min o → (s.min ≤ 1) × UpTo 1 o
    go None e u = absurd (let q : false ≡ true = e in cc)
    go (Some most) e u = (let same = number most e in (omega arith, omega arith))
      where
        number : (n : ℕ) → (n == 1) ≡ true → n ≡ 1
        number n e = grind (arith, nat_tests)

-- nothing is left to come
end_slots : {P : Type 0} (g : Graph P Simple) (p : P) (i : ℕ) (fs : List (Slot P)) → field_end (components g p i fs) ≡ Fine → (a : ℕ) (u : Slot P) → slice_get fs a ≡ Some u → (is_single u ≡ true) × (u.min ≡ 0)
end_slots g p i [] e a u f = absurd cc
end_slots {P} g p i (s ∷ fs) e a u f = go (component g p i s).required refl a f (λ h a f. end_slots g p (suc i) fs h a u f)
  where
    go : (r : Bool) → (component g p i s).required ≡ r → (a : ℕ) → slice_get (s ∷ fs) a ≡ Some u → (field_end (components g p (suc i) fs) ≡ Fine → (a : ℕ) → slice_get fs a ≡ Some u → (is_single u ≡ true) × (u.min ≡ 0)) → (is_single u ≡ true) × (u.min ≡ 0)
    go true r a f again = absurd (let q = sym (cond-true (component g p i s).required _ (field_end (components g p (suc i) fs)) r) ∙ e in cc)
    go false r zero f again = (let same : s ≡ u = cc in subst (λ (z : Slot P). (is_single z ≡ true) × (z.min ≡ 0)) same (free_slot g p i s r))
    go false r (suc a) f again = again (sym (cond-false (component g p i s).required _ (field_end (components g p (suc i) fs)) r) ∙ e) a f

empty_slots : {P : Type 0} (i : ℕ) (fs : List (Slot P)) → ((a : ℕ) (u : Slot P) → slice_get fs a ≡ Some u → is_single u ≡ true) → all_slots i fs (λ k s. Nothing) ≡ Nothing
empty_slots i [] each = refl
empty_slots i (s ∷ fs) each = cond-true (is_single s) _ _ (each 0 s refl) ∙ empty_slots (suc i) fs (λ a u f. each (suc a) u f)

pub fields_end : {P : Type 0} (m : DerMessage P) (p : P) (fs : List (Slot P)) (n : ℕ) (came : List ℕ) → next_number came ≡ n → field_end (drop (next_number came) (components m.forms p 0 fs)) ≡ Fine → FromFields m fs n Nothing
fields_end {P} m p fs n came next e =
    let zero_plus : 0 + n ≡ n = omega arith in
    let cs : drop n (components m.forms p 0 fs) ≡ components m.forms p n (drop n fs) = drop_components m.forms p 0 n fs ∙ ap (λ z. components m.forms p z (drop n fs)) zero_plus in
    let e2 : field_end (components m.forms p n (drop n fs)) ≡ Fine = ap field_end (sym cs) ∙ subst (λ z. field_end (drop z (components m.forms p 0 fs)) ≡ Fine) next e in
    let each = end_slots m.forms p n (drop n fs) e2 in
    record {
      children = value.Nothing;
      ordered = tt;
      admits = tt;
      within = λ i u l f. let a = apart_by n i l in let free = each a.0 u (put_drop n a.0 fs u (subst (λ z. slice_get fs z ≡ Some u) a.1 f)) in (omega (arith, free.1), zero_upto u.max);
      written = sym (empty_slots n (drop n fs) (λ a u f. (each a u f).0));
    }
