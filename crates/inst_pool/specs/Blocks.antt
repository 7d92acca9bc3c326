-- The blocks of a region, which fit each other. Private functions alone cite this.
use Rattle.std.specs.Prelude.{◌≡◌, ◌≤◌, List, [], ◌∷◌, length, vec_capacity}
use Rattle.data_types.specs.Value.{Edge, Piece}
use Rattle.inst_pool.specs.Pieces.{Region, Held, edge_of, open_in, room_limit}
use Rattle.inst_pool.specs.Contents.{pieces_in, AreBlocks, room_of}
use Rattle.inst_pool.specs.declared.piece.Edge.{Edge as Told}
use Rattle.inst_pool.specs.declared.blocks.Blocks.{Blocks}

-- there is room for so many pieces in each block that has an item a piece
pub record HasRoomInBlocks (b : Blocks) : Type 0 where
  pub pieces : length b.contents.items ≤ b.room
  pub limit : b.room ≤ room_limit
  pub contents : b.room ≤ b.contents.room
  pub opened : b.room ≤ vec_capacity b.opened
  pub lens : b.room ≤ b.lens.room
  pub groups : b.room ≤ b.groups.room

-- the blocks have the same items
pub record SameItems (b c : Blocks) : Type 0 where
  pub contents : c.contents.items ≡ b.contents.items
  pub bytes : c.bytes ≡ b.bytes
  pub opened : c.opened.items ≡ b.opened.items
  pub lens : c.lens.items ≡ b.lens.items
  pub groups : c.groups.items ≡ b.groups.items

-- the elements that are open, the innermost first
abbrev pub opened_in : List Edge → List Told → List Edge
opened_in outer [] = outer
opened_in outer (edge ∷ edges) = opened_in (edge_of edge ∷ outer) edges

abbrev pub block_pieces : Blocks → List Piece
block_pieces b = pieces_in b.bytes.items b.contents.items

abbrev pub region_of : Blocks → Region
region_of b = record { pieces = block_pieces b; node_room = b.room; byte_room = room_of (vec_capacity b.bytes) }

abbrev pub held_of : Blocks → Held
held_of b = record { region = region_of b; lens = b.lens.items; groups = b.groups.items }

-- the blocks of an instance that is being made: no number is kept yet
pub record AreBuilding (b : Blocks) : Type 0 where
  pub blocks : AreBlocks b.contents.items b.bytes.items
  pub room : HasRoomInBlocks b
  pub opened : opened_in [] b.opened.items ≡ open_in (block_pieces b)

-- the blocks of an instance, with two numbers beside each piece
pub record AreWhole (b : Blocks) : Type 0 where
  pub blocks : AreBlocks b.contents.items b.bytes.items
  pub room : HasRoomInBlocks b
  pub opened : b.opened.items ≡ []
  pub lens : length b.lens.items ≡ length b.contents.items
  pub groups : length b.groups.items ≡ length b.contents.items
