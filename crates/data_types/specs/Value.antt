-- What an instance of a message is, apart from how it is spelled: the values of the message concepts of ISO 20022-1, and the list of
-- pieces that a pool of instances keeps of one.
use Rattle.std.specs.Prelude.{ℕ, ◌≤◌, List, [], ◌∷◌, if◌then◌else◌, ◌==◌}
use Rattle.lexical_core.specs.Decimals.{Number}
use Rattle.lexical_core.specs.Tree.{Tree}
use Rattle.data_types.specs.Leaf.{Leaf}

-- A component, or the alternative of a choice, has its values in order, each with the number of its slot. A simple type has a leaf,
-- an amount with a currency a code and a number, an external schema a tree.
mutual
  pub data Value : Type 0 where
    Component : (children : Children) → Value
    Simple : (leaf : Leaf) → Value
    Amount : (code : Leaf) (number : Number) → Value
    External : (tree : Tree) → Value

  pub data Children : Type 0 where
    Nothing : Children
    Child : (slot : ℕ) (value : Value) (rest : Children) → Children

-- the values of one slot
abbrev pub values_at : ℕ → Children → List Value
values_at k Nothing = []
values_at k (Child slot value rest) = if slot == k then value ∷ values_at k rest else values_at k rest

abbrev mutual
  -- in the value no slot stands behind a greater one, nor in any value below it
  pub IsOrdered : Value → Type 0
  IsOrdered (Component children) = AreOrderedFrom 0 children
  IsOrdered (Simple leaf) = Unit {0}
  IsOrdered (Amount code number) = Unit {0}
  IsOrdered (External tree) = Unit {0}

  -- the same of children, and none of their slots is below the first number
  pub AreOrderedFrom : ℕ → Children → Type 0
  AreOrderedFrom low Nothing = Unit {0}
  AreOrderedFrom low (Child slot value rest) = (low ≤ slot) × IsOrdered value × AreOrderedFrom slot rest

-- no slot stands behind a greater one, here and in every value below
abbrev pub AreOrdered : Children → Type 0
AreOrdered children = AreOrderedFrom 0 children

-- where an element stands: its slot in the type of its parent, its own type and that of its parent, by their numbers
pub record Edge : Type 0 where
  pub slot : ℕ
  pub target : ℕ
  pub parent : ℕ

-- a piece of an instance: an element begins, its leaf, it ends
pub data Piece : Type 0 where
  Begins : (edge : Edge) → Piece
  Holds : (leaf : Leaf) → Piece
  Ends : (edge : Edge) → Piece
