-- What a reader of DER wants room for: the pieces of an instance, the contents octets of its primitive values, and the values that are open at one time.
use Rattle.std.specs.Prelude.{◌≡◌, ℕ, suc, ◌+◌, ◌-◌, ◌<◌, ◌≤◌, ◌^◌, List, [], ◌∷◌, ◌++◌, length, take}
use Rattle.data_types.specs.Value.{Value, Piece}
use Rattle.facets.specs.declared.simple.Simple.{Simple}
use Rattle.fragments.specs.Fragment.{fragment}
use Rattle.reference_check.specs.Forms.{Graph, Envelope}
use Rattle.message_model.specs.Tables.{Tables, types_of, pieces_of}
use Rattle.der_model.specs.DerMessage.{der_message}
use Rattle.der_model.specs.Der.{SpellsDer, der_values}
use Rattle.der_model.specs.Faults.{DerFront}
use Rattle.der_model.specs.OpenParts.{parts_of, without_lengths}
use Rattle.der_model.specs.ShownPieces.{PartsShow}
use Rattle.der_model.specs.States.{Part, Identifier, Length, End, State, Start, AwaitsContents}
use Rattle.der_model.specs.States as states
use Rattle.der_codec.specs.declared.room.Room.{Room}

-- the contents octets in all
abbrev pub contents_size : List Part → ℕ
contents_size [] = 0
contents_size (states.Contents octets ∷ ps) = length octets + contents_size ps
contents_size (Identifier constructed tag ∷ ps) = contents_size ps
contents_size (Length n ∷ ps) = contents_size ps
contents_size (End ∷ ps) = contents_size ps

-- the values that are open behind a part: a primitive value ends with its contents
abbrev pub open_next : ℕ → Part → ℕ
open_next n (Identifier constructed tag) = suc n
open_next n (Length k) = n
open_next n (states.Contents octets) = n - 1
open_next n End = n - 1

-- there are never more open values than the depth; so many are open at first
abbrev pub StaysOpen : ℕ → ℕ → List Part → Type 0
StaysOpen depth n [] = n ≤ depth
StaysOpen depth n (p ∷ ps) = (n ≤ depth) × StaysOpen depth (open_next n p) ps

-- the room is enough for these pieces, which these parts show
pub record IsEnough (room : Room) (pieces : List Piece) (parts : List Part) : Type 0 where
  pub nodes : length pieces ≤ room.nodes
  pub bytes : contents_size parts ≤ room.bytes
  pub depth : StaysOpen room.depth 0 parts

-- no type is an envelope
abbrev pub HasNoEnvelopes : Graph ℕ Simple → Type 0
HasNoEnvelopes types = (n : ℕ) → types n ≡ Envelope → ⊥

-- The bytes begin the DER of an instance for which the room is enough, in a message without envelopes.
pub record BeginsEnough (T : Tables) (room : Room) (bytes : List ℕ) : Type 0 where
  pub value : Value
  pub behind : List ℕ
  pub short : length (bytes ++ behind) < 2 ^ 63
  pub plain : HasNoEnvelopes (types_of T)
  pub spelled : SpellsDer (der_message T) (bytes ++ behind) value
  pub enough : IsEnough room (pieces_of fragment T value) (parts_of (der_values (der_message T) value))

-- of the octets behind whole parts those that are contents that are due: no more than are due
abbrev pub contents_come : {P : Type 0} → State P → List ℕ → ℕ
contents_come (AwaitsContents spot names count around) rest = length (take count rest)
contents_come state rest = 0

-- the room is enough for what has come: these pieces, these parts, and so many octets of contents that are due
pub record IsEnoughSoFar (room : Room) (pieces : List Piece) (parts : List Part) (come : ℕ) : Type 0 where
  pub nodes : length pieces ≤ room.nodes
  pub bytes : contents_size parts + come ≤ room.bytes
  pub depth : StaysOpen room.depth 0 (without_lengths parts)

-- The room is enough for what each front of the bytes shows, in a message without envelopes: for its whole parts, which break no rule, and their pieces,
-- and for the octets that have come of contents that are not whole.
pub record ShowsEnough (T : Tables) (room : Room) (bytes : List ℕ) : Type 0 where
  pub plain : HasNoEnvelopes (types_of T)
  pub enough : (front behind : List ℕ) → bytes ≡ front ++ behind → (parts : List Part) (state : State ℕ) (at : ℕ) (rest : List ℕ) (pieces : List Piece)
      → DerFront (der_message T) Start 0 front parts state at rest → PartsShow (der_message T) Start 0 parts pieces → IsEnoughSoFar room pieces parts (contents_come state rest)
