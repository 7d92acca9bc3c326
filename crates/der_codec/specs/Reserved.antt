-- What a checker has reserved. Private functions alone cite this.
use Rattle.std.specs.Prelude.{◌≡◌, ◌⊎◌, ℕ, ◌+◌, ◌<◌, ◌≤◌, ◌++◌, [], ◌∷◌, true, false, List, length, Option, Some, None, slice_get, vec_capacity}
use Rattle.std.specs.Global.{Vec, Box}
use Rattle.std.specs.Option.{is_some}
use Rattle.data_types.specs.Leaf.{Leaf}
use Rattle.data_types.specs.Value.{Edge, Piece, Holds}
use Rattle.data_types.specs.declared.kind.Kind.TheVariants as kind
use Rattle.facets.specs.LeafVerdicts.{verdict_room}
use Rattle.facets.specs.PatternChecks.{IsDateKind}
use Rattle.facets.specs.declared.simple.Simple.{Simple}
use Rattle.facets.specs.declared.leaf_verdict.LeafVerdict.{LeafVerdict}
use Rattle.inst_pool.specs.Pieces.{Region, bytes_of}
use Rattle.reference_check.specs.Forms.{Graph, text_type}
use Rattle.message_model.specs.Sound.{AreLinked}
use Rattle.message_model.specs.Tables.{Tables, types_of}
use Rattle.der_model.specs.DerMessage.{DerMessage, der_message}
use Rattle.der_model.specs.OpenParts.{IsPrimitiveSpot}
use Rattle.der_model.specs.Sound.{IsSoundDer}
use Rattle.der_model.specs.Structures as structures
use Rattle.der_model.specs.Structures.{is_constructed}
use Rattle.der_model.specs.ShownPieces.{begin_each, end_each}
use Rattle.der_codec.specs.KeptPieces.{AreLast, HoldsLeafAt}
use Rattle.der_codec.specs.declared.checker.DerChecker.{DerChecker}
use Rattle.der_codec.specs.declared.checks.Checks.{Checks}
use Rattle.der_codec.specs.Levels.{IsSpot}
use Rattle.der_codec.specs.Rooms.{ShowsEnough, HasNoEnvelopes}
use Rattle.der_codec.specs.declared.level.Level.{Level}
use Rattle.der_codec.specs.declared.level.Spot.{Spot}
use Rattle.der_codec.specs.declared.room.Room.{Room}

-- a simple type for whose texts a check is kept: of dates and times, or of texts without codes that have a pattern
abbrev pub WantsCheck : Simple → Type 0
WantsCheck simple = IsDateKind simple.kind ⊎ ((simple.kind ≡ kind.Text) × (simple.codes ≡ None) × (is_some simple.pattern ≡ true))

-- the check of the type of this number is there, with room for a text of so many bytes
pub record HasCheckAt (bytes : ℕ) (entries : List (Option (Box LeafVerdict))) (n : ℕ) : Type 0 where
  pub check : Box LeafVerdict
  pub there : slice_get entries n ≡ Some (Some check)
  pub roomy : bytes + 3 ≤ verdict_room check.value

-- the check has that room
abbrev pub IsRoomyCheck : ℕ → Option (Box LeafVerdict) → Type 0
IsRoomyCheck bytes None = ⊥
IsRoomyCheck bytes (Some check) = bytes + 3 ≤ verdict_room check.value

-- all checks but that of the type of this number are kept
abbrev pub KeepsOthers : ℕ → List (Option (Box LeafVerdict)) → List (Option (Box LeafVerdict)) → Type 0
KeepsOthers number old new = (bytes n : ℕ) → (n ≡ number → ⊥) → HasCheckAt bytes old n → HasCheckAt bytes new n

-- so is that of each type for which one is kept
abbrev pub HasChecks : Graph ℕ Simple → ℕ → Checks → Type 0
HasChecks types bytes checks = (n : ℕ) (simple : Simple) → text_type (types n) ≡ Some simple → WantsCheck simple → HasCheckAt bytes checks.entries.items n

-- what grows while a reader reads has this room at least
pub record AreReserved (types : Graph ℕ Simple) (reserved : Room) (levels : Vec Level) (kept : Vec ℕ) (made : Checks) (pieces : Region) : Type 0 where
  pub depth : reserved.depth ≤ vec_capacity levels
  pub octets : reserved.bytes ≤ vec_capacity kept
  pub nodes : reserved.nodes ≤ pieces.node_room
  pub bytes : reserved.bytes ≤ pieces.byte_room
  pub checks : 0 < reserved.depth → HasChecks types reserved.bytes made

-- The checker keeps pieces, and what grows has the room that was reserved.
pub record IsKeeping (checker : DerChecker) (T : Tables) : Type 0 where
  pub region : Region
  pub is : checker.pieces ≡ Some region
  pub reserved : AreReserved (types_of T) checker.room checker.decoder.levels checker.kept.octets checker.checks region

-- what grows has this room
abbrev pub HoldsRoom : DerChecker → Tables → Room → Type 0
HoldsRoom checker T given = IsKeeping (record checker { room = given }) T

-- the same pieces are kept
abbrev pub HasSamePieces : Option Region → Option Region → Type 0
HasSamePieces None None = Unit {0}
HasSamePieces (Some old) (Some new) = new.pieces ≡ old.pieces
HasSamePieces _ _ = ⊥

-- with this room
abbrev pub HasPieceRoom : Room → Option Region → Type 0
HasPieceRoom given None = Unit {0}
HasPieceRoom given (Some pieces) = (given.nodes ≤ pieces.node_room) × (given.bytes ≤ pieces.byte_room)

-- Nothing that was read is changed.
pub record IsWidened (old new : DerChecker) : Type 0 where
  pub place : new.decoder.place ≡ old.decoder.place
  pub start : new.decoder.start ≡ old.decoder.start
  pub due : new.decoder.due ≡ old.decoder.due
  pub levels : new.decoder.levels.items ≡ old.decoder.levels.items
  pub kept : new.kept.octets.items ≡ old.kept.octets.items
  pub opened : new.kept.leaf ≡ old.kept.leaf
  pub pieces : HasSamePieces old.pieces new.pieces
  pub failed : new.failed ≡ old.failed

-- The same, and the room is enough for what the bytes show, the last of which come now.
pub record HasEnough (checker : DerChecker) (T : Tables) (bytes : List ℕ) : Type 0 where
  pub keeping : IsKeeping checker T
  pub sound : IsSoundDer (der_message T)
  pub linked : AreLinked T
  pub shows : ShowsEnough T checker.room bytes

-- the room for pieces does not shrink, where they are kept
abbrev pub GrowsRoom : Option Region → Option Region → Type 0
GrowsRoom None None = Unit {0}
GrowsRoom (Some old) (Some new) = (old.node_room ≤ new.node_room) × (old.byte_room ≤ new.byte_room)
GrowsRoom _ _ = ⊥

-- ---- room for pieces more

-- these pieces have room behind those that there are
abbrev pub HoldsMore : Region → List Piece → Type 0
HoldsMore old more = (length (old.pieces ++ more) ≤ old.node_room) × (bytes_of (old.pieces ++ more) ≤ old.byte_room)

-- so have the elements that begin with the last component of the value at this level
abbrev pub HoldsBegun : DerMessage ℕ → Level → Region → Type 0
HoldsBegun m around old = (edges : List Edge) → AreLast m around edges → HoldsMore old (begin_each edges)

-- so has a leaf that is that component, with the elements that begin and end with it
abbrev pub HoldsLeafWithin : DerMessage ℕ → Level → Leaf → Region → Type 0
HoldsLeafWithin m around leaf old = (edges : List Edge) → AreLast m around edges → HoldsMore old (begin_each edges ++ Holds leaf ∷ end_each edges)

-- the same where pieces are kept
abbrev pub HoldMore : Option Region → List Piece → Type 0
HoldMore None more = Unit {0}
HoldMore (Some old) more = HoldsMore old more

abbrev pub HoldBegun : DerMessage ℕ → Level → Option Region → Type 0
HoldBegun m around None = Unit {0}
HoldBegun m around (Some old) = HoldsBegun m around old

abbrev pub HoldLeafWithin : DerMessage ℕ → Level → Leaf → Option Region → Type 0
HoldLeafWithin m around leaf None = Unit {0}
HoldLeafWithin m around leaf (Some old) = HoldsLeafWithin m around leaf old

-- the type of this number is not constructed, and is there
abbrev pub IsPrimitiveType : Tables → ℕ → Type 0
IsPrimitiveType T n = (is_constructed (types_of T n) ≡ false) × (n < length T.types)

-- a primitive value is at the spot, of a type that is there
abbrev pub IsPrimitiveAt : Tables → Spot → Type 0
IsPrimitiveAt T spot = (of : structures.Spot ℕ) × IsSpot (types_of T) spot of × IsPrimitiveSpot (λ n. n < length T.types) (der_message T) of

-- The octets that are kept and these are contents at the spot, for which there is room, as for their leaf.
pub record HoldsWhole (checker : DerChecker) (T : Tables) (spot : Spot) (front : List ℕ) : Type 0 where
  pub opened : checker.kept.leaf ≡ None
  pub plain : HasNoEnvelopes (types_of T)
  pub checks : HasChecks (types_of T) (length checker.kept.octets.items + length front) checker.checks
  pub room : length checker.kept.octets.items + length front ≤ vec_capacity checker.kept.octets
  pub primitive : IsPrimitiveAt T spot
  pub leaf : (leaf : Leaf) → HoldsLeafAt (der_message T) spot (checker.kept.octets.items ++ front) leaf → HoldMore checker.pieces (Holds leaf ∷ [])
