-- The compiled types of a message, by number.
use Rattle.std.specs.Prelude.{ℕ, List, [], ◌∷◌, ◌++◌, Option, Some, None, slice_get, codes}
use Rattle.lexical_core.specs.Tree.{Tree}
use Rattle.data_types.specs.Value.{Value, Children, Nothing, Child, Edge, Piece, Begins, Holds, Ends}
use Rattle.data_types.specs.Value as value
use Rattle.data_types.specs.Leaf as leaf
use Rattle.facets.specs.declared.simple.Simple.{Simple}
use Rattle.reference_check.specs.Forms.{Graph, Form, Slot, form_slots}
use Rattle.reference_check.specs.Forms as form
use Rattle.message_model.specs.Message.{Message}

-- a type: the word for its kind, its name and its form
pub record TypeEntry : Type 0 where
  pub word : List ℕ
  pub name : List ℕ
  pub form : Form ℕ Simple

-- the message's identifier and its types: `Document` is type 0, the message type 1
pub record Tables : Type 0 where
  pub id : List ℕ
  pub types : List TypeEntry

abbrev pub form_or_missing : Option TypeEntry → Form ℕ Simple
form_or_missing None = form.Missing
form_or_missing (Some entry) = entry.form

-- the form of each type by its number
abbrev pub types_of : Tables → Graph ℕ Simple
types_of T n = form_or_missing (slice_get T.types n)

-- what the namespaces of all messages begin with
abbrev pub namespace_front : List ℕ
namespace_front = codes "urn:iso:std:iso:20022:tech:xsd:"

-- the namespace of the message's elements
abbrev pub message_namespace : Tables → List ℕ
message_namespace T = namespace_front ++ T.id

-- where a child stands
abbrev pub edge_at : ℕ → ℕ → Option (Slot ℕ) → Edge
edge_at parent k None = record { slot = k; target = 0; parent = parent }
edge_at parent k (Some s) = record { slot = k; target = s.target; parent = parent }

abbrev mutual
  -- the pieces of a value of a type; an envelope's leaf is the canonical fragment of its tree
  pub pieces : (Tree → List ℕ) → Graph ℕ Simple → ℕ → Value → List Piece
  pieces fragment types n (value.Component children) = child_pieces fragment types n children
  pieces fragment types n (value.Simple l) = Holds l ∷ []
  pieces fragment types n (value.Amount l number) = Holds l ∷ Holds (leaf.Number number) ∷ []
  pieces fragment types n (value.External tree) = Holds (leaf.Bytes (fragment tree)) ∷ []

  pub child_pieces : (Tree → List ℕ) → Graph ℕ Simple → ℕ → Children → List Piece
  child_pieces fragment types n Nothing = []
  child_pieces fragment types n (Child k v rest) =
      let edge = edge_at n k (slice_get (form_slots (types n)) k) in
      Begins edge ∷ (pieces fragment types edge.target v ++ (Ends edge ∷ child_pieces fragment types n rest))

-- the message whose types these are
abbrev pub message_of : Tables → Message ℕ
message_of T = record { namespace = message_namespace T; forms = types_of T; root = 0 }

-- the pieces of an instance: the message's element first, in slot 0 of `Document`
abbrev pub pieces_of : (Tree → List ℕ) → Tables → Value → List Piece
pieces_of fragment T v = pieces fragment (types_of T) 0 v
