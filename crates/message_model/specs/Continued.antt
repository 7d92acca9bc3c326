-- What the laws on one open element say: a tag, or the end, may come exactly where some word goes on so.
use Rattle.std.specs.Prelude.{◌≡◌, ◌↔◌, ℕ, List, [], ◌∷◌, ◌++◌, Some, slice_get}
use Rattle.facets.specs.declared.simple.Simple.{Simple}
use Rattle.reference_check.specs.Forms.{Graph, Form, Slot, form_slots, form_to}
use Rattle.reference_check.specs.Words.{IsWordOf}
use Rattle.reference_check.specs.Steps.{Slotted, Fine, next, next_of, end_after, Came}
use Rattle.reference_check.specs.Shapes.{Shape, Component, Shapes, Child, HasShape, HaveShapes, numbers_in, then_shapes, IsFinite, AreFinite, WordGoesOn}
use Rattle.message_model.specs.Sound.{IsSoundForm, AreSound}

-- Behind slots that came one by one, others may come so that all are a word, where the form has a word at all.
abbrev pub CameGoesOn : Type 0
CameGoesOn = (f : Form ℕ Simple) (d : List ℕ) → IsSoundForm f → WordGoesOn f [] → Came f d → WordGoesOn f d

-- A tag is that of slot k exactly where it is its tag and some word goes on with it.
abbrev pub NextGoesOn : Type 0
NextGoesOn = (f : Form ℕ Simple) (d : List ℕ) (k : ℕ) (s : Slot ℕ) → IsSoundForm f → WordGoesOn f [] → Came f d → slice_get (form_slots f) k ≡ Some s
    → (next f d s.tag ≡ Slotted k) ↔ WordGoesOn f (d ++ k ∷ [])

-- The end may come exactly behind a word.
abbrev pub EndIsWord : Type 0
EndIsWord = (f : Form ℕ Simple) (d : List ℕ) → IsSoundForm f → Came f d → (end_after f d ≡ Fine) ↔ IsWordOf f d

-- Where a slot may come next, each shape of its type, behind shapes of what has come, is part of a shape of the type round it.
abbrev pub NextShapes : Type 0
NextShapes = (types : Graph ℕ Simple) (root p : ℕ) (before : Shapes) (k : ℕ) (s : Slot ℕ) (v : Shape) → AreSound types → AreFinite types root → IsFinite types p
    → HaveShapes types (form_slots (types p)) before → Came (types p) (numbers_in before) → next_of (types p) (numbers_in before) k s ≡ Slotted k
    → slice_get (form_slots (types p)) k ≡ Some s → HasShape types (types s.target) v
    → (more : Shapes) × HasShape types (types p) (Component (then_shapes before (Child k v more)))

-- The shapes of a type are those of the place that it was compiled from: forms with other names of the types, and their facets given in another way.
abbrev pub SameShapes : Type 0
SameShapes = (types : Graph ℕ Simple) (tables : Graph ℕ Simple) (place : ℕ → ℕ) → ((n : ℕ) → types (place n) ≡ form_to place (λ x. x) (tables n))
    → (n : ℕ) (v : Shape) → HasShape types (types (place n)) v ↔ HasShape tables (tables n) v
