-- Trees of elements and characters, their events, and the tree that events are (XML 1.0 §2.1, §3; Namespaces in XML 1.0 §2.1).
use Rattle.std.specs.Prelude.{◌≡◌, ℕ, List, [], ◌∷◌, ◌++◌}

-- an expanded name: a namespace and a local name, as bytes (Namespaces §2.1)
pub record Expanded : Type 0 where
  pub namespace : List ℕ
  pub local : List ℕ

-- an attribute with its value, as bytes
pub record Entry : Type 0 where
  pub name : Expanded
  pub value : List ℕ

-- the children of an element in order: an element with its own children and what follows it, or a character and what follows it.
-- The attributes of an element are a finite map, as the list sorted by namespace and then by local name.
pub data Nodes : Type 0 where
  Nothing : Nodes
  Element : (name : Expanded) (attributes : List Entry) (children : Nodes) (rest : Nodes) → Nodes
  Text : (char : ℕ) (rest : Nodes) → Nodes

-- a tree: its root with what it holds
pub record Tree : Type 0 where
  pub name : Expanded
  pub attributes : List Entry
  pub children : Nodes

-- an event, without its place; Skipped is one of markup that says nothing of the tree
pub data Item : Type 0 where
  Starts : (name : Expanded) (attributes : List Entry) → Item
  Char : (char : ℕ) → Item
  Ends : (name : Expanded) → Item
  Skipped : Item

-- the events of children
abbrev pub flat_nodes : Nodes → List Item
flat_nodes Nothing = []
flat_nodes (Element name attributes children rest) = Starts name attributes ∷ flat_nodes children ++ Ends name ∷ flat_nodes rest
flat_nodes (Text char rest) = Char char ∷ flat_nodes rest

-- the events of a tree: the start, those of the children, the end
abbrev pub flat : Tree → List Item
flat t = Starts t.name t.attributes ∷ flat_nodes t.children ++ Ends t.name ∷ []

-- the events that speak of the tree: nothing skipped, and no character outside the root; n elements are open
abbrev pub tree_items : ℕ → List Item → List Item
tree_items n [] = []
tree_items n (Starts name attributes ∷ items) = Starts name attributes ∷ tree_items (Prim.Native.Nat.suc n) items
tree_items n (Ends name ∷ items) = Ends name ∷ tree_items (Prim.Native.Nat.pred n) items
tree_items Prim.Native.Nat.zero (Char c ∷ items) = tree_items Prim.Native.Nat.zero items
tree_items (Prim.Native.Nat.suc n) (Char c ∷ items) = Char c ∷ tree_items (Prim.Native.Nat.suc n) items
tree_items n (Skipped ∷ items) = tree_items n items

-- The events are those of the tree.
abbrev pub TreeIs : List Item → Tree → Type 0
TreeIs items t = tree_items 0 items ≡ flat t
