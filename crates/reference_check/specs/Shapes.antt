-- Instances of a message whose leaves are left open (ISO 20022-1: which elements stand in which, and how often), and the types that have one.
use Rattle.std.specs.Prelude.{◌≡◌, ℕ, List, [], ◌∷◌, ◌++◌, Some, slice_get, ◌⊎◌}
use Rattle.std.specs.List.{AllByRecursion}
use Rattle.reference_check.specs.Forms.{Graph, Form, Slot, form_slots, LeftOut}
use Rattle.reference_check.specs.Forms as form
use Rattle.reference_check.specs.Words.{IsSequence, IsChoice, IsWordOf}

-- a component, or the alternative of a choice, has the shapes of its elements in order, each with the number of its slot; all else is an open leaf
mutual
  pub data Shape : Type 0 where
    Component : (children : Shapes) → Shape
    OpenLeaf : Shape

  pub data Shapes : Type 0 where
    Nothing : Shapes
    Child : (slot : ℕ) (shape : Shape) (rest : Shapes) → Shapes

-- the slots of the children, in order
abbrev pub numbers_in : Shapes → List ℕ
numbers_in Nothing = []
numbers_in (Child slot shape rest) = slot ∷ numbers_in rest

-- shapes before others
abbrev pub then_shapes : Shapes → Shapes → Shapes
then_shapes Nothing behind = behind
then_shapes (Child slot shape rest) behind = Child slot shape (then_shapes rest behind)

abbrev mutual
  -- a type of this form has the shape: no element has too few or too many of a slot
  pub HasShape : {P L : Type 0} → Graph P L → Form P L → Shape → Type 0
  HasShape types (form.Sequence slots) (Component children) = IsSequence slots (numbers_in children) × HaveShapes types slots children
  HasShape types (form.Choice slots) (Component children) = IsChoice slots (numbers_in children) × HaveShapes types slots children
  HasShape types (form.Simple simple) OpenLeaf = Unit {0}
  HasShape types (form.Money code number) OpenLeaf = Unit {0}
  HasShape types form.Envelope OpenLeaf = Unit {0}
  HasShape types form.LeftOut OpenLeaf = Unit {0}
  HasShape types _ _ = ⊥

  -- each child is a shape of the type that its slot leads to
  pub HaveShapes : {P L : Type 0} → Graph P L → List (Slot P) → Shapes → Type 0
  HaveShapes types slots Nothing = Unit {0}
  HaveShapes {P} types slots (Child k shape rest) =
      ((s : Slot P) × (slice_get slots k ≡ Some s) × HasShape types (types s.target) shape) × HaveShapes types slots rest

-- the type has an instance, its leaves left open
abbrev pub IsFinite : {P L : Type 0} → Graph P L → P → Type 0
IsFinite types p = (shape : Shape) × HasShape types (types p) shape

-- more slots may come behind these, so that they are a word
abbrev pub WordGoesOn : {P L : Type 0} → Form P L → List ℕ → Type 0
WordGoesOn form d = (more : List ℕ) × IsWordOf form (d ++ more)

-- The root has a shape, and so has each type to which a slot leads; no type is of a kind that instances do not have.
pub record AreFinite {P L : Type 0} (types : Graph P L) (root : P) : Type 0 where
  pub document : IsFinite types root
  pub slots : (p : P) (k : ℕ) (s : Slot P) → slice_get (form_slots (types p)) k ≡ Some s → IsFinite types s.target
  pub kinds : (p : P) → types p ≡ LeftOut → ⊥

-- a slot need not come, or its type was found
abbrev pub IsReached : {P : Type 0} → (P → Type 0) → Slot P → Type 0
IsReached Found s = (s.min ≡ 0) ⊎ Found s.target

-- a round of the search for types with an instance finds one of this form, by those that were found before
abbrev pub MayBeFound : {P L : Type 0} → (P → Type 0) → Form P L → Type 0
MayBeFound Found (form.Sequence slots) = AllByRecursion (IsReached Found) slots
MayBeFound {P} Found (form.Choice slots) = (k : ℕ) × (s : Slot P) × (slice_get slots k ≡ Some s) × IsReached Found s
MayBeFound Found form.Missing = ⊥
MayBeFound Found _ = Unit {0}
