-- The pieces of a path of open nodes, so far.
use Rattle.std.specs.Prelude.{◌≡◌, ℕ, List, [], ◌∷◌, ◌++◌}
use Rattle.data_types.specs.Leaf.{Bytes}
use Rattle.data_types.specs.Value.{Value, Edge, Piece, Begins, Holds, Ends}
use Rattle.fragments.specs.Fragment.{fragment}
use Rattle.inst_pool.specs.Pieces.{open_in}
use Rattle.message_model.specs.Tables.{types_of, child_pieces}
use Rattle.drill.specs.BuiltIn.{drill_tables}
use Rattle.drill.specs.Growing.{OpenNode, Path, Growth, open_node, node_name, below, path_depth}
use Rattle.drill.specs.declared.stem.Stem.{Stem}
use Rattle.drill.specs.declared.growing.Sprout.{Sprout}

-- where the message's element stands, where node 0, a name and every other node
abbrev pub message_edge : Edge
message_edge = record { slot = 0; target = 1; parent = 0 }

abbrev pub root_edge : Edge
root_edge = record { slot = 0; target = 3; parent = 1 }

abbrev pub name_edge : Edge
name_edge = record { slot = 0; target = 2; parent = 3 }

abbrev pub child_edge : Edge
child_edge = record { slot = 1; target = 3; parent = 3 }

-- a name with its element
abbrev pub name_pieces : ℕ → List Piece
name_pieces number = Begins name_edge ∷ (Holds (Bytes (node_name number)) ∷ (Ends name_edge ∷ []))

-- the nodes below one
abbrev pub below_pieces : List Value → List Piece
below_pieces values = child_pieces fragment (types_of drill_tables) 3 (below values)

-- what is within an open node so far
abbrev pub inside_pieces : OpenNode → List Piece
inside_pieces node = name_pieces node.number ++ below_pieces node.values

-- the innermost open node with those round it, the message's element first
abbrev pub pieces_from : OpenNode → List OpenNode → List Piece
pieces_from inner [] = Begins message_edge ∷ (Begins root_edge ∷ inside_pieces inner)
pieces_from inner (outer ∷ outers) = pieces_from outer outers ++ (Begins child_edge ∷ inside_pieces inner)

abbrev pub pieces_so_far : Path → List Piece
pieces_so_far p = pieces_from p.inner p.outers

-- the elements that are open, the innermost node first
abbrev pub edges_round : List OpenNode → List Edge
edges_round [] = root_edge ∷ (message_edge ∷ [])
edges_round (outer ∷ outers) = child_edge ∷ edges_round outers

-- node 0 is open
abbrev pub first_path : Path
first_path = record { inner = open_node 0; outers = [] }

-- a stem has the pieces of these open nodes
pub record HasPath (p : Path) (s : Stem) : Type 0 where
  pub pieces : s.builder.pieces ≡ pieces_so_far p
  pub open_are : open_in s.builder.pieces ≡ edges_round p.outers
  pub depth : s.depth ≡ path_depth p

-- what has grown
pub record HasGrown (g : Growth) (s : Sprout) : Type 0 where
  pub path : HasPath g.path s.stem
  pub deepest : s.deepest ≡ g.deepest
  pub generator : s.generator ≡ g.generator
