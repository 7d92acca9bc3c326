-- Children one list before another: their slots, and their values by slot.
use Rattle.std.proofs.Common.{◌≡◌, ◌≢◌, ℕ, zero, suc, ◌+◌, ◌≤◌, ◌<◌, Bool, true, false, List, [], ◌∷◌, ◌++◌, length, replicate, drop, Option, Some, None, refl, sym, ap, ◌∙◌, subst, arith}
use Rattle.std.specs.Prelude.{◌==◌, if◌then◌else◌, slice_get, nat_lt}
use Rattle.std.proofs.lemmas.Bool.Decides.{nat_tests}
use Rattle.std.proofs.lemmas.Bool.{cond-true, cond-false}
use Rattle.data_types.specs.Value.{Children}
use Rattle.data_types.specs.Value as value
use Rattle.facets.specs.declared.simple.Simple.{Simple}
use Rattle.der_octets.specs.Octets.{Values, Nothing, then_values}
use Rattle.reference_check.specs.Forms.{Graph, Slot}
use Rattle.reference_check.specs.Words.{times, UpTo, IsOrderedFrom}
use Rattle.message_model.specs.Admits.{numbers_of}
use Rattle.message_model.specs.Admits.{AdmitsChildren}
use Rattle.der_model.specs.DerMessage.{DerMessage}
use Rattle.der_model.specs.Structures.{component, is_single}
use Rattle.der_model.specs.Der.{placed_value, slot_values, all_slots, body, values_at}
use Rattle.der_model.proofs.Spelled.{no_child}

-- children before others
abbrev pub then_children : Children → Children → Children
then_children value.Nothing b = b
then_children (value.Child j v rest) b = value.Child j v (then_children rest b)

pub slots_then : (a b : Children) → numbers_of (then_children a b) ≡ numbers_of a ++ numbers_of b
slots_then value.Nothing b = refl
slots_then (value.Child j v rest) b = ap (λ z. j ∷ z) (slots_then rest b)

pub admits_then : {P : Type 0} (g : Graph P Simple) (fs : List (Slot P)) (a b : Children) → AdmitsChildren g fs a → AdmitsChildren g fs b → AdmitsChildren g fs (then_children a b)
admits_then g fs value.Nothing b p q = q
admits_then g fs (value.Child j v rest) b (x, more) q = (x, admits_then g fs rest b more q)

pub values_own : {P : Type 0} (m : DerMessage P) (k n : ℕ) (s : Slot P) (a b : Children) → numbers_of a ≡ replicate n k → values_at m k s b ≡ Nothing → values_at m k s (then_children a b) ≡ values_at m k s a
values_own m k n s value.Nothing b is none = none
values_own m k zero s (value.Child j v rest) b is none = absurd cc
values_own m k (suc n) s (value.Child j v rest) b is none =
    let tails : numbers_of rest ≡ replicate n k = cc in
    ap (λ z. if j == k then placed_value m.forms k s (body m (m.forms s.target) v) z else z) (values_own m k n s rest b tails none)

pub values_other : {P : Type 0} (m : DerMessage P) (i k n : ℕ) (s : Slot P) (a b : Children) → numbers_of a ≡ replicate n k → i ≢ k → values_at m i s (then_children a b) ≡ values_at m i s b
values_other m i k n s value.Nothing b is other = refl
values_other m i k zero s (value.Child j v rest) b is other = absurd cc
values_other m i k (suc n) s (value.Child j v rest) b is other =
    let head : j ≡ k = cc in
    let tails : numbers_of rest ≡ replicate n k = cc in
    cond-false (j == i) _ _ (apart j i (λ e. other (sym e ∙ head))) ∙ values_other m i k n s rest b tails other
  where
    apart : (j i : ℕ) → j ≢ i → (j == i) ≡ false
    apart j i h = grind (arith, nat_tests)

pub values_none : {P : Type 0} (m : DerMessage P) (low top k : ℕ) (s : Slot P) (b : Children) → IsOrderedFrom low top (numbers_of b) → k < low → values_at m k s b ≡ Nothing
values_none m low top k s value.Nothing o l = refl
values_none m low top k s (value.Child j v rest) (a, c, o) l = cond-false (j == k) _ _ (apart j k (omega arith)) ∙ values_none m j top k s rest o (omega arith)
  where
    apart : (j k : ℕ) → k < j → (j == k) ≡ false
    apart j k h = grind (arith, nat_tests)

pub times_none : (low top k : ℕ) (d : List ℕ) → IsOrderedFrom low top d → k < low → times k d ≡ 0
times_none low top k [] o l = refl
times_none low top k (j ∷ d) (a, c, o) l = no_child j k (times k d) (apart j k (omega arith)) ∙ times_none j top k d o (omega arith)
  where
    apart : (j k : ℕ) → k < j → (j == k) ≡ false
    apart j k h = grind (arith, nat_tests)

weaken : (low more top : ℕ) (d : List ℕ) → low ≤ more → IsOrderedFrom more top d → IsOrderedFrom low top d
weaken low more top [] l o = tt
weaken low more top (j ∷ d) l (a, c, o) = (omega arith, c, o)

pub ordered_then : (n low k top : ℕ) (a d : List ℕ) → a ≡ replicate n k → low ≤ k → k < top → IsOrderedFrom (suc k) top d → IsOrderedFrom low top (a ++ d)
ordered_then n low k top [] d is l u o = weaken low (suc k) top d (omega arith) o
ordered_then zero low k top (j ∷ a) d is l u o = absurd cc
ordered_then (suc n) low k top (j ∷ a) d is l u o =
    let head : j ≡ k = cc in
    let tails : a ≡ replicate n k = cc in
    (omega arith, omega arith, ordered_then n j k top a d tails (omega arith) u o)

-- slots in which nothing stands
pub slots_skip : {P : Type 0} (i off : ℕ) (fs : List (Slot P)) (at : ℕ → Slot P → Values) → ((a : ℕ) (u : Slot P) → a < off → slice_get fs a ≡ Some u → (is_single u ≡ true) × (at (i + a) u ≡ Nothing)) → off ≤ length fs → all_slots i fs at ≡ all_slots (i + off) (drop off fs) at
slots_skip i zero fs at none l = (let e : i ≡ i + 0 = omega arith in ap (λ z. all_slots z fs at) e)
slots_skip i (suc off) [] at none l = absurd (omega arith)
slots_skip i (suc off) (s ∷ fs) at none l =
    let first = none 0 s (omega arith) refl in
    let here : i + 0 ≡ i = omega arith in
    let empty : at i s ≡ Nothing = subst (λ z. at z s ≡ Nothing) here first.1 in
    let sum : suc i + off ≡ i + suc off = omega arith in
    cond-true (is_single s) _ _ first.0
    ∙ (ap (λ z. then_values z (all_slots (suc i) fs at)) empty
    ∙ (slots_skip (suc i) off fs at (λ a u b f. let r = none (suc a) u (omega arith) f in (r.0, subst (λ z. at z u ≡ Nothing) (let e : i + suc a ≡ suc i + a = omega arith in e) r.1)) (omega arith)
    ∙ ap (λ z. all_slots z (drop off fs) at) sum))

pub slots_congr : {P : Type 0} (i : ℕ) (fs : List (Slot P)) (V W : ℕ → Slot P → Values) → ((j : ℕ) (s : Slot P) → i ≤ j → V j s ≡ W j s) → all_slots i fs V ≡ all_slots i fs W
slots_congr i [] V W same = refl
slots_congr i (s ∷ fs) V W same =
    ap (λ z. slot_values i s z (all_slots (suc i) fs V)) (same i s (omega arith)) ∙ ap (λ z. slot_values i s (W i s) z) (slots_congr (suc i) fs V W (λ j t l. same j t (omega arith)))

pub times_other : (i k n : ℕ) → i ≢ k → times i (replicate n k) ≡ 0
times_other i k zero h = refl
times_other i k (suc n) h = no_child k i (times i (replicate n k)) (apart k i h) ∙ times_other i k n h
  where
    apart : (k i : ℕ) → i ≢ k → (k == i) ≡ false
    apart k i h = grind (arith, nat_tests)

no_min : (n : ℕ) → nat_lt 0 n ≡ false → n ≡ 0
no_min n h = grind (arith, nat_tests)

-- a component that does not have to come is a single one with no minimum
pub free_slot : {P : Type 0} (g : Graph P Simple) (p : P) (k : ℕ) (s : Slot P) → (component g p k s).required ≡ false → (is_single s ≡ true) × (s.min ≡ 0)
free_slot g p k s e = go (is_single s) refl
  where
    go : (z : Bool) → is_single s ≡ z → (is_single s ≡ true) × (s.min ≡ 0)
    go true h = (h, no_min s.min (sym (cond-true (is_single s) _ _ h) ∙ e))
    go false h = absurd (let q : true ≡ false = sym (cond-false (is_single s) (nat_lt 0 s.min) true h) ∙ e in cc)

pub zero_upto : (o : Option ℕ) → UpTo 0 o
zero_upto None = tt
zero_upto (Some most) = omega arith
