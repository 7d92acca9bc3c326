-- Shapes of what has come, and of what may come next, are part of a shape of the whole; and shapes do not depend on the names of the types.
use Rattle.std.proofs.Common.{◌≡◌, ℕ, zero, suc, ◌<◌, List, [], ◌∷◌, ◌++◌, length, replicate, Some, map, refl, sym, ap, ◌∙◌, subst, arith, append_assoc}
use Rattle.std.specs.Prelude.{◌↔◌, slice_get}
use Rattle.std.specs.List.{AllByRecursion}
use Rattle.facets.specs.declared.simple.Simple.{Simple}
use Rattle.reference_check.specs.Forms.{Graph, Form, Slot, form_slots, slot_to, form_to}
use Rattle.reference_check.specs.Forms as form
use Rattle.reference_check.specs.Words.{IsWordOf, IsOrderedFrom}
use Rattle.reference_check.specs.Steps.{Slotted, next_of, Came}
use Rattle.reference_check.proofs.RenamedForms.{get_to, get_from, sequence_to, sequence_from, choice_to, choice_from}
use Rattle.reference_check.specs.Shapes.{Shape, Component, OpenLeaf, Shapes, Nothing, Child, HasShape, HaveShapes, numbers_in, then_shapes, IsFinite, AreFinite, WordGoesOn}
use Rattle.message_model.specs.Sound.{IsSoundForm}
use Rattle.message_model.specs.Continued.{NextShapes, SameShapes}
use Rattle.message_model.proofs.CameMore.{came_more}
use Rattle.message_model.proofs.Continues.{came_goes_on}

-- ---- each slot of a word has a shape

abbrev AreSlots : {P : Type 0} → List (Slot P) → List ℕ → Type 0
AreSlots {P} slots d = AllByRecursion (λ k. (s : Slot P) × (slice_get slots k ≡ Some s)) d

slot_below : {P : Type 0} (k : ℕ) (fs : List (Slot P)) → k < length fs → (s : Slot P) × (slice_get fs k ≡ Some s)
slot_below k [] h = absurd (omega arith)
slot_below zero (s ∷ fs) h = (s, refl)
slot_below (suc k) (s ∷ fs) h = slot_below k fs (omega arith)

ordered_slots : {P : Type 0} (fs : List (Slot P)) (low : ℕ) (d : List ℕ) → IsOrderedFrom low (length fs) d → AreSlots fs d
ordered_slots fs low [] o = tt
ordered_slots fs low (k ∷ d) o = (slot_below k fs o.1, ordered_slots fs k d o.2)

same_slots : {P : Type 0} (fs : List (Slot P)) (k n : ℕ) (s : Slot P) → slice_get fs k ≡ Some s → AreSlots fs (replicate n k)
same_slots fs k zero s found = tt
same_slots fs k (suc n) s found = ((s, found), same_slots fs k n s found)

word_slots : {P L : Type 0} (f : Form P L) (d : List ℕ) → IsWordOf f d → AreSlots (form_slots f) d
word_slots (form.Sequence fs) d word = ordered_slots fs 0 d word.ordered
word_slots (form.Choice fs) d (k, n, s, found, within, e) = rw e (same_slots fs k n s found)
word_slots f d word = absurd word

slots_behind : {P : Type 0} (slots : List (Slot P)) (d more : List ℕ) → AreSlots slots (d ++ more) → AreSlots slots more
slots_behind slots [] more h = h
slots_behind slots (k ∷ d) more h = slots_behind slots d more h.1

module _ {P : Type 0} (types : Graph P Simple) (targets : (p : P) (k : ℕ) (s : Slot P) → slice_get (form_slots (types p)) k ≡ Some s → IsFinite types s.target) where
  shapes_of : (p : P) (more : List ℕ) → AreSlots (form_slots (types p)) more → (ks : Shapes) × (numbers_in ks ≡ more) × HaveShapes types (form_slots (types p)) ks
  shapes_of p [] h = (Nothing, refl, tt)
  shapes_of p (k ∷ more) ((s, found), h) =
      let v : IsFinite types s.target = targets p k s found in
      let r : (ks : Shapes) × (numbers_in ks ≡ more) × HaveShapes types (form_slots (types p)) ks = shapes_of p more h in
      (Child k v.0 r.0, ap (λ x. k ∷ x) r.1, ((s, found, v.1), r.2))

numbers_then : (before behind : Shapes) → numbers_in (then_shapes before behind) ≡ numbers_in before ++ numbers_in behind
numbers_then Nothing behind = refl
numbers_then (Child k v rest) behind = ap (λ x. k ∷ x) (numbers_then rest behind)

shapes_then : {P L : Type 0} (types : Graph P L) (slots : List (Slot P)) (before behind : Shapes) → HaveShapes types slots before → HaveShapes types slots behind → HaveShapes types slots (then_shapes before behind)
shapes_then types slots Nothing behind h k = k
shapes_then types slots (Child j v rest) behind h k = (h.0, shapes_then types slots rest behind h.1 k)

of_word : {P L : Type 0} (types : Graph P L) (f : Form P L) (ks : Shapes) → IsWordOf f (numbers_in ks) → HaveShapes types (form_slots f) ks → HasShape types f (Component ks)
of_word types (form.Sequence slots) ks word h = (word, h)
of_word types (form.Choice slots) ks word h = (word, h)
of_word types f ks word h = absurd word

word_of : {P L : Type 0} (types : Graph P L) (f : Form P L) (v : Shape) (k : ℕ) (s : Slot P) → slice_get (form_slots f) k ≡ Some s → HasShape types f v → WordGoesOn f []
word_of types (form.Sequence slots) (Component ks) k s found h = (numbers_in ks, h.0)
word_of types (form.Choice slots) (Component ks) k s found h = (numbers_in ks, h.0)
word_of types (form.Simple x) OpenLeaf k s found h = absurd cc
word_of types (form.Money c x) OpenLeaf k s found h = absurd cc
word_of types form.Envelope OpenLeaf k s found h = absurd cc
word_of types form.LeftOut OpenLeaf k s found h = absurd cc
word_of types f v k s found h = absurd h

-- where a slot may come next, a shape of its type continues those that have come
pub slot_shapes : {P : Type 0} (types : Graph P Simple) (p : P) (before : Shapes) (k : ℕ) (s : Slot P) (v : Shape) → IsSoundForm (types p) → ((p : P) (k : ℕ) (s : Slot P) → slice_get (form_slots (types p)) k ≡ Some s → IsFinite types s.target) → IsFinite types p
    → HaveShapes types (form_slots (types p)) before → Came (types p) (numbers_in before) → next_of (types p) (numbers_in before) k s ≡ Slotted k → slice_get (form_slots (types p)) k ≡ Some s → HasShape types (types s.target) v
    → (more : Shapes) × HasShape types (types p) (Component (then_shapes before (Child k v more)))
slot_shapes {P} types p before k s v sound targets (w, shape) has came slotted found fits =
    of_more (came_goes_on (types p) (numbers_in before ++ k ∷ []) sound (word_of types (types p) w k s found shape) (came_more (types p) (numbers_in before) k s came found slotted))
  where
    of_more : WordGoesOn (types p) (numbers_in before ++ k ∷ []) → (more : Shapes) × HasShape types (types p) (Component (then_shapes before (Child k v more)))
    of_more (e, word) = of_shapes (shapes_of types targets p e (slots_behind (form_slots (types p)) (numbers_in before ++ k ∷ []) e (word_slots (types p) ((numbers_in before ++ k ∷ []) ++ e) word)))
      where
        of_shapes : ((ks : Shapes) × (numbers_in ks ≡ e) × HaveShapes types (form_slots (types p)) ks) → (more : Shapes) × HasShape types (types p) (Component (then_shapes before (Child k v more)))
        of_shapes (ks, are, each) =
            let numbers : (numbers_in before ++ k ∷ []) ++ e ≡ numbers_in (then_shapes before (Child k v ks)) = append_assoc (numbers_in before) (k ∷ []) e ∙ (ap (λ x. numbers_in before ++ k ∷ x) (sym are) ∙ sym (numbers_then before (Child k v ks))) in
            (ks, of_word types (types p) (then_shapes before (Child k v ks)) (subst (λ x. IsWordOf (types p) x) numbers word) (shapes_then types (form_slots (types p)) before (Child k v ks) has ((s, found, fits), each)))

-- ---- other names of the types

module _ {P Q L M : Type 0} (types : Graph P L) (tables : Graph Q M) (h : Q → P) (l : M → L) (same : (n : Q) → types (h n) ≡ form_to h l (tables n)) where
  mutual
    shape_to : (f : Form Q M) (v : Shape) → HasShape tables f v → HasShape types (form_to h l f) v
    shape_to (form.Sequence slots) (Component ks) (word, each) = (sequence_to h slots (numbers_in ks) word, shapes_to slots ks each)
    shape_to (form.Choice slots) (Component ks) (word, each) = (choice_to h slots (numbers_in ks) word, shapes_to slots ks each)
    shape_to (form.Simple x) OpenLeaf has = tt
    shape_to (form.Money c x) OpenLeaf has = tt
    shape_to form.Envelope OpenLeaf has = tt
    shape_to form.LeftOut OpenLeaf has = tt
    shape_to f v has = absurd has

    shapes_to : (slots : List (Slot Q)) (ks : Shapes) → HaveShapes tables slots ks → HaveShapes types (map (slot_to h) slots) ks
    shapes_to slots Nothing each = tt
    shapes_to slots (Child k v ks) ((s, found, has), each) =
        ((slot_to h s, get_to h slots k s found, subst (λ (f : Form P L). HasShape types f v) (sym (same s.target)) (shape_to (tables s.target) v has)), shapes_to slots ks each)

  mutual
    shape_from : (f : Form Q M) (v : Shape) → HasShape types (form_to h l f) v → HasShape tables f v
    shape_from (form.Sequence slots) (Component ks) (word, each) = (sequence_from h slots (numbers_in ks) word, shapes_from slots ks each)
    shape_from (form.Choice slots) (Component ks) (word, each) = (choice_from h slots (numbers_in ks) word, shapes_from slots ks each)
    shape_from (form.Simple x) OpenLeaf has = tt
    shape_from (form.Money c x) OpenLeaf has = tt
    shape_from form.Envelope OpenLeaf has = tt
    shape_from form.LeftOut OpenLeaf has = tt
    shape_from f v has = absurd has

    shapes_from : (slots : List (Slot Q)) (ks : Shapes) → HaveShapes types (map (slot_to h) slots) ks → HaveShapes tables slots ks
    shapes_from slots Nothing each = tt
    shapes_from slots (Child k v ks) ((t, found, has), each) =
        let r : (s : Slot Q) × (slice_get slots k ≡ Some s) × (t ≡ slot_to h s) = get_from h slots k t found in
        ((r.0, r.1, shape_from (tables r.0.target) v (subst (λ (f : Form P L). HasShape types f v) (same r.0.target) (subst (λ (x : Slot P). HasShape types (types x.target) v) r.2 has))), shapes_from slots ks each)

  pub shapes_same : (n : Q) (v : Shape) → HasShape types (types (h n)) v ↔ HasShape tables (tables n) v
  shapes_same n v = ((λ has. shape_from (tables n) v (subst (λ (f : Form P L). HasShape types f v) (same n) has)), (λ has. subst (λ (f : Form P L). HasShape types f v) (sym (same n)) (shape_to (tables n) v has)))

  -- compiled types are finite where the places that they were compiled from are
  pub compiled_finite : (root : Q) → IsFinite types (h root) → ((n : Q) (k : ℕ) (s : Slot Q) → slice_get (form_slots (tables n)) k ≡ Some s → IsFinite types (h s.target)) → ((n : Q) → tables n ≡ form.LeftOut → ⊥) → AreFinite tables root
  compiled_finite root document targets kinds = record {
    document = (document.0, (shapes_same root document.0).0 document.1);
    slots = λ n k s found. (let v : IsFinite types (h s.target) = targets n k s found in (v.0, (shapes_same s.target v.0).0 v.1));
    kinds = kinds;
  }

pub same_shapes : SameShapes
same_shapes types tables place same n v = shapes_same types tables place (λ x. x) same n v

pub next_shapes : NextShapes
next_shapes types root p before k s v sound finite here has came slotted found fits = slot_shapes types p before k s v (sound p) finite.slots here has came slotted found fits
