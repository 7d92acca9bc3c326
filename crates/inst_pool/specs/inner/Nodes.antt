-- Contents in short.
use Rattle.std.specs.Prelude.{ℕ, zero, suc, ◌/◌, ◌%◌, ◌<◌, ◌≤◌, ◌==◌, List, [], ◌∷◌, length, slice_index_or, pos}
use Rattle.lexical_core.specs.Decimals.{Number as DecimalNumber, IsDecimal}
use Rattle.inst_pool.specs.inner.Others.{AreBetween, other_at, HasOther}
use Rattle.inst_pool.specs.declared.piece.Edge.{Edge}
use Rattle.inst_pool.specs.declared.content.Content.{Content}
use Rattle.inst_pool.specs.declared.content.Content.TheVariants as long
use Rattle.inst_pool.specs.declared.node.Kind.{Kind}
use Rattle.inst_pool.specs.declared.node.Kind.TheVariants.{Open, Bytes, Number, Flag, Code, Close, Amount, Apart}
use Rattle.inst_pool.specs.declared.node.Node.{Node}
use Rattle.inst_pool.specs.declared.others.Other.{Other}

-- the kind that three bits tell
abbrev pub kind_by_bits : ℕ → Kind
kind_by_bits zero = Open
kind_by_bits (suc zero) = Bytes
kind_by_bits (suc (suc zero)) = Number
kind_by_bits (suc (suc (suc zero))) = Flag
kind_by_bits (suc (suc (suc (suc zero)))) = Code
kind_by_bits (suc (suc (suc (suc (suc zero))))) = Close
kind_by_bits (suc (suc (suc (suc (suc (suc zero)))))) = Amount
kind_by_bits bits = Apart

-- what the lowest three bits of a node tell, and the number of 29 bits that it holds
abbrev pub node_kind : Node → Kind
node_kind node = kind_by_bits (node.word % 8)

abbrev pub number_in : Node → ℕ
number_in node = node.word / 8

-- the edge that a number tells: 7 bits for the slot, and 11 for each type
abbrev pub edge_in : ℕ → Edge
edge_in held = record { slot = held % 128; target = held / 128 % 2048; parent = held / 0x4_0000 }

-- the decimal without a sign of this whole part and scale
abbrev pub decimal_of : ℕ → ℕ → DecimalNumber
decimal_of whole scale = record { whole = pos whole; scale = scale }

-- the decimal that a number tells: 26 bits for the whole part, and 3 for the scale
abbrev pub decimal_in : ℕ → DecimalNumber
decimal_in held = decimal_of (held / 8) (held % 8)

-- the same, where the scale is 2
abbrev pub amount_in : ℕ → DecimalNumber
amount_in held = decimal_of held 2

-- the content of a piece at a place by the kind and the number of its node, beside the short texts and the other contents
abbrev pub content_by : List Content → List Other → ℕ → Kind → ℕ → Content
content_by texts others at Open held = long.Open (edge_in held)
content_by texts others at Bytes held = slice_index_or texts held (long.Code 0)
content_by texts others at Number held = long.Number (decimal_in held)
content_by texts others at Flag held = long.Flag (held == 1)
content_by texts others at Code held = long.Code held
content_by texts others at Close held = long.Close (edge_in held)
content_by texts others at Amount held = long.Number (amount_in held)
content_by texts others at Apart held = other_at others at

abbrev pub content_of : List Content → List Other → ℕ → Node → Content
content_of texts others at node = content_by texts others at (node_kind node) (number_in node)

-- what a node leads to is there, and its number one that a leaf has
abbrev pub IsKindWithin : List Content → List Other → ℕ → Kind → ℕ → Type 0
IsKindWithin texts others at Bytes held = held < length texts
IsKindWithin texts others at Number held = IsDecimal (decimal_in held)
IsKindWithin texts others at Amount held = IsDecimal (amount_in held)
IsKindWithin texts others at Apart held = HasOther others at
IsKindWithin texts others at kind held = Unit {0}

abbrev pub IsNodeWithin : List Content → List Other → ℕ → Node → Type 0
IsNodeWithin texts others at node = IsKindWithin texts others at (node_kind node) (number_in node)

-- the same of all nodes, the first of which stands at that place
abbrev pub AreNodesWithin : List Content → List Other → ℕ → List Node → Type 0
AreNodesWithin texts others at [] = Unit {0}
AreNodesWithin texts others at (node ∷ nodes) = IsNodeWithin texts others at node × AreNodesWithin texts others (suc at) nodes

-- the contents of nodes, the first of which stands at that place
abbrev pub contents_in : List Content → List Other → ℕ → List Node → List Content
contents_in texts others at [] = []
contents_in texts others at (node ∷ nodes) = content_of texts others at node ∷ contents_in texts others (suc at) nodes

-- the nodes fit the short texts and the other contents
pub record AreNodes (texts : List Content) (others : List Other) (nodes : List Node) : Type 0 where
  pub within : AreNodesWithin texts others 0 nodes
  pub count : length texts ≤ length nodes
  pub order : AreBetween 0 (length nodes) others
