-- The types that rounds find are those that have a shape.
use Rattle.std.proofs.Common.{◌≡◌, ℕ, zero, suc, ◌+◌, ◌≤◌, ◌<◌, true, false, List, [], ◌∷◌, ◌++◌, length, replicate, Option, Some, None, refl, ap, ◌∙◌, arith, eqb, ◌⊎◌, inl, inr, ◌≢◌, append-nil}
use Rattle.std.specs.Prelude.{slice_get}
use Rattle.std.specs.List.{AllByRecursion}
use Rattle.std.proofs.lemmas.Bool.Decides.{nat_tests, eqb_tells}
use Rattle.reference_check.specs.Forms.{Graph, Form, Slot, form_slots}
use Rattle.reference_check.specs.Forms as form
use Rattle.reference_check.specs.Words.{times, UpTo, MayComeTimes, IsOrderedFrom}
use Rattle.reference_check.specs.Shapes.{Shape, Shapes, Component, OpenLeaf, Nothing, Child, numbers_in, HasShape, HaveShapes, IsFinite, MayBeFound, IsReached}
use Rattle.reference_check.proofs.Words.{IsProper, times-replicate, up_to_less}
use Rattle.reference_check.proofs.Concat.{IsConcatenationFrom, from_concatenation, AreWithin}

-- what comes at all has a value that is in F
found_child : {P L : Type 0} (g : Graph P L) (F : P → Type 0) (fs : List (Slot P)) (j k : ℕ) (v : Shape) (ks : Shapes) (s : Slot P)
    → (((t : Slot P) × (slice_get fs j ≡ Some t) × F t.target))
    → (0 < times k (numbers_in ks) → F s.target) → slice_get fs k ≡ Some s → 0 < times k (numbers_in (Child j v ks)) → F s.target
found_child {P} g F fs j k v ks s (t, e, holds) rest found some = go (eqb_tells j k)
  where
    go : ((eqb j k ≡ true) × (j ≡ k)) ⊎ ((eqb j k ≡ false) × (j ≢ k)) → F s.target
    go (inl h) =
        let here : slice_get fs k ≡ Some t = rw h.1 at e in
        let same : t ≡ s = cc in
        rw same at holds
    go (inr h) = rest (let e : eqb j k ≡ false = h.0 in grind (arith, nat_tests))

reached : {P : Type 0} (F : P → Type 0) (k : ℕ) (fs : List (Slot P)) (d : List ℕ) → ((i j : ℕ) (s : Slot P) → j ≡ k + i → slice_get fs i ≡ Some s → s.min ≤ times j d) → ((i j : ℕ) (s : Slot P) → j ≡ k + i → slice_get fs i ≡ Some s → 0 < times j d → F s.target) → AllByRecursion (IsReached F) fs
reached F k [] d enough each = tt
reached F k (s ∷ fs) d enough each =
    (go s.min refl, reached F (suc k) fs d (λ i j f e g. enough (suc i) j f (omega arith) g) (λ i j f e g l. each (suc i) j f (omega arith) g l))
  where
    go : (m : ℕ) → s.min ≡ m → IsReached F s
    go zero e = inl e
    go (suc m) e = inr (each 0 k s (omega arith) refl (let h : s.min ≤ times k d = enough 0 k s (omega arith) refl in omega arith))

of_choice : {P : Type 0} (F : P → Type 0) (n : ℕ) (s : Slot P) → MayComeTimes n s → (0 < n → F s.target) → IsReached F s
of_choice F zero s w h = inl (omega arith)
of_choice F (suc n) s w h = inr (h (omega arith))

module _ {P L : Type 0} (g : Graph P L) (F : P → Type 0) (closed : (p : P) → MayBeFound F (g p) → F p) where
  mutual
    -- what is closed under rounds has each type with a shape
    pub found_form : (f : Form P L) (s : Shape) → HasShape g f s → MayBeFound F f
    found_form (form.Sequence fs) (Component ks) (word, each) =
        reached F 0 fs (numbers_in ks) (λ i j s e h. (let same : i ≡ j = omega arith in let at : slice_get fs j ≡ Some s = rw same at h in (word.within j s at).0))
        (λ i j s e h l. found_children fs ks each j s (let same : i ≡ j = omega arith in rw same at h) l)
    found_form (form.Choice fs) (Component ks) ((k, n, s, e, within, d), each) =
        (k, s, e, of_choice F n s within (λ l. found_children fs ks each k s e (omega (arith, ap (times k) d, times-replicate k n))))
    found_form (form.Simple f) OpenLeaf h = tt
    found_form (form.Money c f) OpenLeaf h = tt
    found_form form.Envelope OpenLeaf h = tt
    found_form form.LeftOut OpenLeaf h = tt
    found_form f s h = absurd h

    found_children : (fs : List (Slot P)) (ks : Shapes) → HaveShapes g fs ks → (k : ℕ) (s : Slot P) → slice_get fs k ≡ Some s → 0 < times k (numbers_in ks) → F s.target
    found_children fs Nothing each k s e some = absurd (omega arith)
    found_children fs (Child j v ks) ((t, e, h), each) k s found some =
        found_child g F fs j k v ks s (t, e, closed t.target (found_form (g t.target) v h)) (found_children fs ks each k s found) found some

  pub finite_in : (p : P) → IsFinite g p → F p
  finite_in p (s, h) = closed p (found_form (g p) s h)

-- n copies of a shape in slot k, before the others
repeated : ℕ → ℕ → Shape → Shapes → Shapes
repeated zero k v ks = ks
repeated (suc n) k v ks = Child k v (repeated n k v ks)

numbers_in-repeated : (n k : ℕ) (v : Shape) (ks : Shapes) → numbers_in (repeated n k v ks) ≡ replicate n k ++ numbers_in ks
unfolding repeated
numbers_in-repeated zero k v ks = refl
numbers_in-repeated (suc n) k v ks = ap (λ d. k ∷ d) (numbers_in-repeated n k v ks)

HaveShapes-repeated : {P L : Type 0} (g : Graph P L) (fs : List (Slot P)) (n k : ℕ) (s : Slot P) (v : Shape) (ks : Shapes) → slice_get fs k ≡ Some s → HasShape g (g s.target) v → HaveShapes g fs ks → HaveShapes g fs (repeated n k v ks)
unfolding repeated
HaveShapes-repeated g fs zero k s v ks e h each = each
HaveShapes-repeated g fs (suc n) k s v ks e h each = ((s, e, h), HaveShapes-repeated g fs n k s v ks e h each)

-- the fewest values that the slots from k on need
abbrev Least : {P L : Type 0} → Graph P L → List (Slot P) → ℕ → List (Slot P) → Type 0
Least g all k fs = (ks : Shapes) × IsConcatenationFrom k fs (numbers_in ks) × HaveShapes g all ks

module _ {P L : Type 0} (g : Graph P L) (all : List (Slot P)) where
  least_step : (k : ℕ) (s : Slot P) (fs : List (Slot P)) → slice_get all k ≡ Some s → UpTo s.min s.max → IsReached (IsFinite g) s → Least g all (suc k) fs → Least g all k (s ∷ fs)
  least_step k s fs e proper (inl none) (ks, word, each) = (ks, (0, numbers_in ks, (omega arith, up_to_zero s.max), refl, word), each)
    where
      up_to_zero : (max : Option ℕ) → UpTo 0 max
      up_to_zero None = tt
      up_to_zero (Some top) = omega arith
  least_step k s fs e proper (inr (v, h)) (ks, word, each) =
      (repeated s.min k v ks, (s.min, numbers_in ks, (omega arith, proper), numbers_in-repeated s.min k v ks, word), HaveShapes-repeated g all s.min k s v ks e h each)

  least_children : (k : ℕ) (fs : List (Slot P)) → ((i j : ℕ) (s : Slot P) → j ≡ k + i → slice_get fs i ≡ Some s → (slice_get all j ≡ Some s) × UpTo s.min s.max) → AllByRecursion (IsReached (IsFinite g)) fs → Least g all k fs
  least_children k [] here each = (Nothing, refl, tt)
  least_children k (s ∷ fs) here each =
      let h : (slice_get all k ≡ Some s) × UpTo s.min s.max = here 0 k s (omega arith) refl in
      least_step k s fs h.0 h.1 each.0 (least_children (suc k) fs (λ i j f e r. here (suc i) j f (omega arith) r) each.1)

abbrev pub IsProperForm : {P L : Type 0} → Form P L → Type 0
IsProperForm f = IsProper (form_slots f)

-- one round finds only types that have a shape
pub finite_form : {P L : Type 0} (g : Graph P L) (f : Form P L) → IsProperForm f → MayBeFound (IsFinite g) f → (s : Shape) × HasShape g f s
finite_form g (form.Sequence fs) proper h = go (least_children g fs 0 fs (λ i j s e r. (let same : j ≡ i = omega arith in rw same r, proper i s r)) h)
  where
    go : Least g fs 0 fs → (s : Shape) × HasShape g (form.Sequence fs) s
    go (ks, word, each) =
        let c : IsOrderedFrom 0 (length fs) (numbers_in ks) × AreWithin 0 fs (numbers_in ks) = from_concatenation 0 (length fs) fs (numbers_in ks) (omega arith) word in
        (Component ks, (record { ordered = c.0; within = λ k s e. c.1 k k s (omega arith) e }, each))
finite_form g (form.Choice fs) proper (k, s, e, r) = go r
  where
    go : IsReached (IsFinite g) s → (v : Shape) × HasShape g (form.Choice fs) v
    go (inl none) = (Component Nothing, ((k, 0, s, e, (omega arith, up_to_less 0 s.min s.max (omega arith) (proper k s e)), refl), tt))
    go (inr (v, h)) = (Component (repeated s.min k v Nothing), ((k, s.min, s, e, (omega arith, proper k s e), numbers_in-repeated s.min k v Nothing ∙ append-nil _), HaveShapes-repeated g fs s.min k s v Nothing e h tt))
finite_form g (form.Simple f) proper h = (OpenLeaf, tt)
finite_form g (form.Money c f) proper h = (OpenLeaf, tt)
finite_form g form.Envelope proper h = (OpenLeaf, tt)
finite_form g form.LeftOut proper h = (OpenLeaf, tt)
finite_form g form.Missing proper h = absurd h
