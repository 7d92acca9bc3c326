-- Whether events can still go on to those of an instance, but for the texts that have not ended.
use Rattle.std.specs.Prelude.{◌≡◌, ℕ, ◌+◌, ◌-◌, ◌<◌, List, ◌++◌, length, codes}
use Rattle.std.specs.List.{AllByRecursion}
use Rattle.std.specs.Str.{chars}
use Rattle.lexical_core.specs.Tree.{Entry, Nodes, Element, Text, Tree, Item, flat, flat_nodes, tree_items}
use Rattle.lexical_core.specs.Tree as tree
use Rattle.lexical_core.specs.Characters.{IsSpace}
use Rattle.data_types.specs.Leaf.{Leaf}
use Rattle.facets.specs.LeafUnder.{GivesLeaf}
use Rattle.facets.specs.declared.simple.Simple.{Simple}
use Rattle.reference_check.specs.Forms.{Graph, Form, form_slots}
use Rattle.reference_check.specs.Forms as form
use Rattle.reference_check.specs.Shapes.{Shape, Component, OpenLeaf, Nothing, Child, HasShape}
use Rattle.message_model.specs.Message.{Message}
use Rattle.message_model.specs.Writes.{name_in_namespace, IsHint, HasCurrency, SpellsCode, text_nodes, Wraps, MayHold, AtSlot}

-- an element of this form may have the attributes: an amount its currency, which spells a code, and else hints alone
abbrev pub AreKnown : {P : Type 0} → Graph P Simple → Form P Simple → List Entry → Type 0
AreKnown types (form.Money code number) attributes = (w : List ℕ) × (l : Leaf) × HasCurrency attributes w × SpellsCode (types code) (chars w) l
AreKnown types form attributes = AllByRecursion IsHint attributes

-- The nodes are any characters. Where all of them and the end behind them have come, they spell a leaf.
abbrev pub TextSoFar : ℕ → Simple → Nodes → Type 0
TextSoFar come simple nodes = (w : List ℕ) × (nodes ≡ text_nodes w) × (length w < come → (l : Leaf) × GivesLeaf simple w l)

-- the content of an element that is an open leaf to shapes: an envelope has any one element
abbrev pub LeafSoFar : {P : Type 0} → ℕ → Form P Simple → Nodes → Type 0
LeafSoFar come (form.Simple simple) nodes = TextSoFar come simple nodes
LeafSoFar come (form.Money code number) nodes = TextSoFar come number nodes
LeafSoFar come form.Envelope nodes = (t : Tree) × Wraps t nodes
LeafSoFar come _ nodes = ⊥

-- The nodes are the content of an element with this shape: an element for each child in order, under the tag of its slot.
-- Of their events and the end behind them so many have come: an element that has started has known attributes, and one that has ended fits.
abbrev pub ContentSoFar : {P : Type 0} → Graph P Simple → List ℕ → ℕ → Form P Simple → Shape → Nodes → Type 0
ContentSoFar types ns come form (Component Nothing) tree.Nothing = Unit {0}
ContentSoFar types ns come form (Component (Child k v more)) tree.Nothing = ⊥
ContentSoFar types ns come form (Component children) (Text c rest) = IsSpace c × ContentSoFar types ns (come - 1) form (Component children) rest
ContentSoFar types ns come form (Component Nothing) (Element name attributes inner rest) = ⊥
ContentSoFar types ns come form (Component (Child k v more)) (Element name attributes inner rest) =
    AtSlot (form_slots form) k (λ s. (name ≡ name_in_namespace ns s.tag) × (0 < come → AreKnown types (types s.target) attributes) × MayHold (types s.target) inner
    × ContentSoFar types ns (come - 1) (types s.target) v inner)
    × ContentSoFar types ns (come - (length (flat_nodes inner) + 2)) form (Component more) rest
ContentSoFar types ns come form OpenLeaf nodes = LeafSoFar come form nodes

-- The tree is an element `Document` with this shape, of whose events so many have come.
pub record IsSoFar {P : Type 0} (m : Message P) (come : ℕ) (shape : Shape) (t : Tree) : Type 0 where
  pub name : t.name ≡ name_in_namespace m.namespace (codes "Document")
  pub attributes : 0 < come → AreKnown m.forms (m.forms m.root) t.attributes
  pub holds : MayHold (m.forms m.root) t.children
  pub content : ContentSoFar m.forms m.namespace (come - 1) (m.forms m.root) shape t.children

-- The events go on to those of a tree round some shape of the message, in which they break nothing.
pub record AreEventsOpen {P : Type 0} (m : Message P) (items : List Item) : Type 0 where
  pub shape : Shape
  pub has_shape : HasShape m.forms (m.forms m.root) shape
  pub tree : Tree
  pub behind : List Item
  pub goes_on : tree_items 0 items ++ behind ≡ flat tree
  pub so_far : IsSoFar m (length (tree_items 0 items)) shape tree

-- The events are the first of some tree, whatever its elements are: start and end tags match, and there is one root.
abbrev pub IsTreeFront : List Item → Type 0
IsTreeFront items = (behind : List Item) × (t : Tree) × (tree_items 0 items ++ behind ≡ flat t)
