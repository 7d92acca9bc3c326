-- Which trees write a value (ISO 20022-4, XML Schema part 1 §2.6): elements in the message's namespace under the tags of their slots,
-- white space between them, and the text of a leaf alone in its element.
use Rattle.std.specs.Prelude.{◌≡◌, ℕ, List, [], ◌∷◌, Some, slice_get, ◌⊎◌, codes}
use Rattle.std.specs.List.{AllByRecursion}
use Rattle.std.specs.Str.{chars}
use Rattle.lexical_core.specs.Tree.{Expanded, Entry, Nodes, Element, Text, Tree}
use Rattle.lexical_core.specs.Names.{attribute_value}
use Rattle.lexical_core.specs.Tree as tree
use Rattle.lexical_core.specs.Characters.{IsSpace}
use Rattle.data_types.specs.Leaf as leaf
use Rattle.data_types.specs.Leaf.{Leaf}
use Rattle.data_types.specs.Value.{Value, Nothing, Child}
use Rattle.data_types.specs.Value as value
use Rattle.facets.specs.LeafUnder.{GivesLeaf}
use Rattle.facets.specs.declared.simple.Simple.{Simple}
use Rattle.reference_check.specs.Forms.{Graph, Form, Slot, form_slots}
use Rattle.reference_check.specs.Forms as form

-- a local name in a namespace
abbrev pub name_in_namespace : List ℕ → List ℕ → Expanded
name_in_namespace namespace local = record { namespace = namespace; local = local }

-- the namespace of hints to a schema (XML Schema part 1 §2.6)
abbrev pub schema_instance : List ℕ
schema_instance = codes "http://www.w3.org/2001/XMLSchema-instance"

-- an attribute that only hints where a schema is, which every element may have (XML Schema part 1 §2.6.3)
abbrev pub IsHint : Entry → Type 0
IsHint a = (a.name ≡ name_in_namespace schema_instance (codes "schemaLocation")) ⊎ (a.name ≡ name_in_namespace schema_instance (codes "noNamespaceSchemaLocation"))

-- the name of the attribute with the currency of an amount
abbrev pub currency : Expanded
currency = name_in_namespace [] (codes "Ccy")

-- an attribute that an amount with a currency may have
abbrev pub IsHintOrCurrency : Entry → Type 0
IsHintOrCurrency a = IsHint a ⊎ (a.name ≡ currency)

-- the attributes are hints and a currency, with this value
abbrev pub HasCurrency : List Entry → List ℕ → Type 0
HasCurrency attributes w = (attribute_value currency attributes ≡ Some w) × AllByRecursion IsHintOrCurrency attributes

-- the characters spell the leaf under the simple type of a code
abbrev pub SpellsCode : {P : Type 0} → Form P Simple → List ℕ → Leaf → Type 0
SpellsCode (form.Simple simple) text l = GivesLeaf simple text l
SpellsCode _ text l = ⊥

-- the attributes of an element with this value: those of an amount spell its code, and all others are hints
abbrev pub WritesAttributes : {P : Type 0} → Graph P Simple → Form P Simple → Value → List Entry → Type 0
WritesAttributes types (form.Money code number) (value.Amount l n) attributes = (w : List ℕ) × HasCurrency attributes w × SpellsCode (types code) (chars w) l
WritesAttributes types form v attributes = AllByRecursion IsHint attributes

-- the nodes are these characters
abbrev pub text_nodes : List ℕ → Nodes
text_nodes [] = tree.Nothing
text_nodes (c ∷ cs) = Text c (text_nodes cs)

-- the nodes are characters that spell the leaf
abbrev pub SpellsText : Simple → Leaf → Nodes → Type 0
SpellsText simple l nodes = (w : List ℕ) × (nodes ≡ text_nodes w) × GivesLeaf simple w l

-- the nodes are white space
abbrev pub IsBlank : Nodes → Type 0
IsBlank tree.Nothing = Unit {0}
IsBlank (Text c rest) = IsSpace c × IsBlank rest
IsBlank (Element name attributes children rest) = ⊥

-- the nodes are the tree, and white space round it
abbrev pub Wraps : Tree → Nodes → Type 0
Wraps t tree.Nothing = ⊥
Wraps t (Text c rest) = IsSpace c × Wraps t rest
Wraps t (Element name attributes children rest) = (t ≡ record { name = name; attributes = attributes; children = children }) × IsBlank rest

-- a sequence without slots has no children at all
abbrev pub MayHold : {P : Type 0} → Form P Simple → Nodes → Type 0
MayHold (form.Sequence []) nodes = nodes ≡ tree.Nothing
MayHold _ nodes = Unit {0}

-- the content of an element without elements of the message
abbrev pub WritesLeaf : {P : Type 0} → Form P Simple → Value → Nodes → Type 0
WritesLeaf (form.Simple simple) (value.Simple l) nodes = SpellsText simple l nodes
WritesLeaf (form.Money code number) (value.Amount l n) nodes = SpellsText number (leaf.Number n) nodes
WritesLeaf form.Envelope (value.External t) nodes = Wraps t nodes
WritesLeaf _ _ nodes = ⊥

-- something holds of a slot
abbrev pub AtSlot : {P : Type 0} → List (Slot P) → ℕ → (Slot P → Type 0) → Type 0
AtSlot {P} slots k Holds = (s : Slot P) × (slice_get slots k ≡ Some s) × Holds s

-- the nodes are the content of an element with this value: an element for each child in order, under the tag of its slot
abbrev pub WritesContent : {P : Type 0} → Graph P Simple → List ℕ → Form P Simple → Value → Nodes → Type 0
WritesContent types ns form (value.Component Nothing) tree.Nothing = Unit {0}
WritesContent types ns form (value.Component (Child k v more)) tree.Nothing = ⊥
WritesContent types ns form (value.Component children) (Text c rest) = IsSpace c × WritesContent types ns form (value.Component children) rest
WritesContent types ns form (value.Component Nothing) (Element name attributes inner rest) = ⊥
WritesContent types ns form (value.Component (Child k v more)) (Element name attributes inner rest) =
    AtSlot (form_slots form) k (λ s. (name ≡ name_in_namespace ns s.tag) × WritesAttributes types (types s.target) v attributes × MayHold (types s.target) inner
    × WritesContent types ns (types s.target) v inner)
    × WritesContent types ns form (value.Component more) rest
WritesContent types ns form v nodes = WritesLeaf form v nodes

-- the tree writes the value, as an element `Document` of this form
pub record WritesAs {P : Type 0} (types : Graph P Simple) (ns : List ℕ) (form : Form P Simple) (v : Value) (t : Tree) : Type 0 where
  pub name : t.name ≡ name_in_namespace ns (codes "Document")
  pub attributes : WritesAttributes types form v t.attributes
  pub holds : MayHold form t.children
  pub content : WritesContent types ns form v t.children
