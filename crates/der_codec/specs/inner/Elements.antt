-- The elements that begin with a component of an open value, as they are kept.
use Rattle.std.specs.Prelude.{Bool, true, false, List, [], ◌∷◌, ◌++◌, Option, Some, None}
use Rattle.data_types.specs.Value.{Edge}
use Rattle.facets.specs.declared.simple.Simple.{Simple}
use Rattle.reference_check.specs.Forms.{Form, Sequence, Choice}
use Rattle.inst_pool.specs.Pieces.{edge_of}
use Rattle.inst_pool.specs.declared.piece.Edge.{Edge as Told}
use Rattle.der_codec.specs.declared.elements.Elements.{Elements}

-- an element, where there is one
abbrev pub edge_if : Option Told → List Edge
edge_if None = []
edge_if (Some edge) = edge_of edge ∷ []

-- the outermost first
abbrev pub edges_of : Elements → List Edge
edges_of e = edge_if e.outer ++ edge_if e.inner

-- what comes in a value of the form comes in slots
abbrev pub has_slots : {P : Type 0} → Form P Simple → Bool
has_slots (Sequence slots) = true
has_slots (Choice slots) = true
has_slots form = false
