-- What is kept of pieces. Private functions alone cite this.
use Rattle.std.specs.Prelude.{◌≡◌, ℕ, ◌+◌, ◌≤◌, min, List, [], ◌∷◌, length, slice_range, Option, Some, None}
use Rattle.data_types.specs.Leaf.{Leaf, Bytes as BytesLeaf, Number as NumberLeaf, Flag as FlagLeaf, Code as CodeLeaf}
use Rattle.data_types.specs.Value.{Piece, Begins, Holds, Ends}
use Rattle.inst_pool.specs.Pieces.{edge_of, bytes_of, room_limit}
use Rattle.inst_pool.specs.declared.content.Content.{Content}
use Rattle.inst_pool.specs.declared.content.Content.TheVariants.{Open, Bytes, Number, Flag, Code, Close}

-- the piece that a content is, over the block of bytes
abbrev pub piece_in : List ℕ → Content → Piece
piece_in bytes (Open edge) = Begins (edge_of edge)
piece_in bytes (Bytes start end) = Holds (BytesLeaf (slice_range bytes start end))
piece_in bytes (Number number) = Holds (NumberLeaf number)
piece_in bytes (Flag flag) = Holds (FlagLeaf flag)
piece_in bytes (Code place) = Holds (CodeLeaf place)
piece_in bytes (Close edge) = Ends (edge_of edge)

-- its bytes stand within a block of so many
abbrev pub IsContentInside : ℕ → Content → Type 0
IsContentInside count (Bytes start end) = (start ≤ end) × (end ≤ count)
IsContentInside count content = Unit {0}

-- the pieces that contents are
abbrev pub pieces_in : List ℕ → List Content → List Piece
pieces_in bytes [] = []
pieces_in bytes (content ∷ contents) = piece_in bytes content ∷ pieces_in bytes contents

-- all bytes of contents stand within a block of so many
abbrev pub AreInside : ℕ → List Content → Type 0
AreInside count [] = Unit {0}
AreInside count (content ∷ contents) = IsContentInside count content × AreInside count contents

-- the room of a block that can hold so many
abbrev pub room_of : ℕ → ℕ
room_of capacity = min capacity room_limit

-- the two blocks fit each other, and neither has more than it may
pub record AreBlocks (contents : List Content) (bytes : List ℕ) : Type 0 where
  pub inside : AreInside (length bytes) contents
  pub count : bytes_of (pieces_in bytes contents) ≡ length bytes
  pub byte_limit : length bytes ≤ room_limit

-- the content of bytes that are added to a block
abbrev pub content_of_bytes : List ℕ → List ℕ → Content
content_of_bytes bytes more = Bytes (length bytes) (length bytes + length more)

-- the leaf of a content that has one and no bytes
abbrev pub plain_leaf : Content → Option Leaf
plain_leaf (Number number) = Some (NumberLeaf number)
plain_leaf (Flag flag) = Some (FlagLeaf flag)
plain_leaf (Code place) = Some (CodeLeaf place)
plain_leaf content = None
