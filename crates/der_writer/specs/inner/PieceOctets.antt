-- What is written at a piece: the octets of an instance piece by piece, by the numbers that are kept (X.690 §8.1, §8.9, §8.10).
use Rattle.std.specs.Prelude.{ℕ, suc, ◌-◌, ◌==◌, Bool, true, false, List, [], ◌∷◌, ◌++◌, length, take, drop, Option, Some, None, slice_get, slice_index, if◌then◌else◌}
use Rattle.data_types.specs.Leaf.{Leaf}
use Rattle.data_types.specs.Value.{Edge, Piece, Begins, Holds, Ends}
use Rattle.facets.specs.declared.simple.Simple.{Simple}
use Rattle.der_octets.specs.Octets.{Tag, context, identifier, length_octets}
use Rattle.reference_check.specs.Forms.{Graph, Form, Slot, form_slots}
use Rattle.reference_check.specs.Forms as form
use Rattle.der_model.specs.LeafContents.{leaf_contents}
use Rattle.der_model.specs.Structures.{is_single, is_constructed, universal_tag}
use Rattle.der_writer.specs.Measured.{Beside, Free, Sized, Counts, is_plain}

-- what stands before a piece: an element that has begun, a leaf, an element that has ended
pub data Before : Type 0 where
  Begun : (edge : Edge) → Before
  Filled : Before
  Ended : (edge : Edge) → Before

abbrev pub before_of : Piece → Before
before_of (Begins edge) = Begun edge
before_of (Holds leaf) = Filled
before_of (Ends edge) = Ended edge

-- the first slot that may come behind it
abbrev pub next_slot : Before → ℕ
next_slot (Ended edge) = suc edge.slot
next_slot before = 0

-- an element of slot k stands before
abbrev pub goes_on : Before → ℕ → Bool
goes_on (Ended edge) k = edge.slot == k
goes_on before k = false

-- identifier octets and length octets
abbrev pub head : Bool → Tag → ℕ → List ℕ
head constructed tag len = identifier constructed tag ++ length_octets len

-- slot k where nothing has come: a list stands there also where it is empty
abbrev pub empty_slot : ℕ → Slot ℕ → List ℕ
empty_slot k s = if is_single s then [] else head true (context k) 0

-- slots where nothing has come, the first with number k
abbrev pub empty_slots : ℕ → List (Slot ℕ) → List ℕ
empty_slots k [] = []
empty_slots k (s ∷ slots) = empty_slot k s ++ empty_slots (suc k) slots

-- the slots of a sequence
abbrev pub sequence_slots : Form ℕ Simple → List (Slot ℕ)
sequence_slots (form.Sequence slots) = slots
sequence_slots form = []

-- the slots behind a piece and before slot k, where nothing has come
abbrev pub slots_between : Graph ℕ Simple → ℕ → Before → ℕ → List ℕ
slots_between g n before k = empty_slots (next_slot before) (take (k - next_slot before) (drop (next_slot before) (sequence_slots (g n))))

-- all slots behind a piece, where nothing has come
abbrev pub slots_behind : Graph ℕ Simple → ℕ → Before → List ℕ
slots_behind g n before = empty_slots (next_slot before) (drop (next_slot before) (sequence_slots (g n)))

-- the list of slot k begins with its first item
abbrev pub list_head : Option (Slot ℕ) → Before → ℕ → ℕ → List ℕ
list_head None before k group = []
list_head (Some s) before k group = if is_single s then [] else (if goes_on before k then [] else head true (context k) group)

-- an item of a list begins; of a choice it is the alternative
abbrev pub item_head : Form ℕ Simple → ℕ → List ℕ
item_head (form.Choice slots) len = []
item_head form len = head (is_constructed form) (universal_tag form) len

-- an element of slot k begins: under its tag, or as an item
abbrev pub element_head : Option (Slot ℕ) → Form ℕ Simple → ℕ → ℕ → List ℕ
element_head None form k len = []
element_head (Some s) form k len = if is_single s then head (is_constructed form) (context k) len else item_head form len

abbrev pub own_slot : Graph ℕ Simple → Edge → Option (Slot ℕ)
own_slot g edge = slice_get (form_slots (g edge.parent)) edge.slot

-- what stands before an element that begins: slots without children, and its list where it is the first
abbrev pub octets_before : Graph ℕ Simple → Before → Edge → ℕ → List ℕ
octets_before g before edge group = slots_between g edge.parent before edge.slot ++ list_head (own_slot g edge) before edge.slot group

abbrev pub begin_octets : Graph ℕ Simple → Edge → ℕ → List ℕ
begin_octets g edge len = element_head (own_slot g edge) (g edge.target) edge.slot len

-- a leaf under its own tag, as in an amount
abbrev pub tagged_leaf : ℕ → Leaf → List ℕ
tagged_leaf k leaf = head false (context k) (length (leaf_contents leaf)) ++ leaf_contents leaf

-- the leaf of an element, of an amount its code
abbrev pub first_leaf : Form ℕ Simple → Leaf → List ℕ
first_leaf (form.Money code number) leaf = tagged_leaf 0 leaf
first_leaf form leaf = leaf_contents leaf

abbrev pub leaf_octets : Graph ℕ Simple → Before → Leaf → List ℕ
leaf_octets g (Begun edge) leaf = first_leaf (g edge.target) leaf
leaf_octets g before leaf = tagged_leaf 1 leaf

-- what is written at a piece
abbrev pub piece_octets : Graph ℕ Simple → Before → Piece → ℕ → ℕ → List ℕ
piece_octets g before (Begins edge) len group = octets_before g before edge group ++ begin_octets g edge len
piece_octets g before (Holds leaf) len group = leaf_octets g before leaf
piece_octets g before (Ends edge) len group = slots_behind g edge.target before

-- an element of one leaf in a slot that comes once
abbrev pub plain_edge : Graph ℕ Simple → Edge → Bool
plain_edge g edge = is_plain (own_slot g edge) (g edge.target)

-- how many contents octets a leaf has that is the next piece
abbrev pub leaf_next : Option Piece → ℕ
leaf_next (Some (Holds leaf)) = length (leaf_contents leaf)
leaf_next next = 0

-- how many contents octets an element has that begins with a piece, by the next one or by the pairs of numbers that are left
abbrev pub len_kept : Graph ℕ Simple → Piece → Option Piece → List ℕ → ℕ → ℕ
len_kept g (Begins edge) next lens left = if plain_edge g edge then leaf_next next else slice_index lens (left - 1)
len_kept g piece next lens left = 0

-- how many pairs are left behind a piece, of so many before it
abbrev pub left_behind : Graph ℕ Simple → Piece → ℕ → ℕ
left_behind g (Begins edge) left = if plain_edge g edge then left else left - 1
left_behind g piece left = left

-- what is written at pieces and at the end of the whole, by the pairs of numbers that are kept, of which so many are left: the last is that
-- of the first element that has one
abbrev pub pieces_octets : Graph ℕ Simple → Before → List Piece → List ℕ → List ℕ → ℕ → List ℕ
pieces_octets g before [] lens groups left = slots_behind g 0 before
pieces_octets g before (piece ∷ pieces) lens groups left =
    piece_octets g before piece (len_kept g piece (slice_get pieces 0) lens left) (slice_index groups (left - 1)) ++ pieces_octets g (before_of piece) pieces lens groups (left_behind g piece left)

abbrev pub len_of : Beside → ℕ
len_of Free = 0
len_of (Sized len) = len
len_of (Counts len group) = len

abbrev pub group_of : Beside → ℕ
group_of Free = 0
group_of (Sized len) = 0
group_of (Counts len group) = group

-- the same, with 0 where any number may stand
abbrev pub counted_octets : Graph ℕ Simple → Before → List Piece → List Beside → List ℕ
counted_octets g before [] beside = slots_behind g 0 before
counted_octets g before (piece ∷ pieces) [] = piece_octets g before piece 0 0 ++ counted_octets g (before_of piece) pieces []
counted_octets g before (piece ∷ pieces) (b ∷ beside) = piece_octets g before piece (len_of b) (group_of b) ++ counted_octets g (before_of piece) pieces beside

-- `Document`, which no piece begins or ends
abbrev pub document_edge : Edge
document_edge = record { slot = 0; target = 0; parent = 0 }
