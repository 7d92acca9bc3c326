-- The pieces that are kept of what was read, where pieces are kept. Private functions alone cite this.
use Rattle.std.specs.Prelude.{◌≡◌, ℕ, List, [], ◌∷◌, ◌++◌, Option, Some, None, slice_get}
use Rattle.data_types.specs.Leaf.{Leaf}
use Rattle.data_types.specs.Value.{Edge, Piece, Holds}
use Rattle.inst_pool.specs.Pieces.{Region, open_in}
use Rattle.der_model.specs.DerMessage.{DerMessage}
use Rattle.der_model.specs.Structures as structures
use Rattle.der_model.specs.Structures.{Component, structure}
use Rattle.der_model.specs.OpenParts.{components_of}
use Rattle.der_model.specs.States as states
use Rattle.der_model.specs.States.{State, Start, AwaitsLength, AwaitsContents, Within}
use Rattle.der_model.specs.ShownPieces.{PartsShow, begin_each, end_each, last_elements, elements_ended}
use Rattle.der_model.specs.NestedPieces.{elements_around}
use Rattle.der_codec.specs.Decoding.{Reads, HasReadParts}
use Rattle.der_codec.specs.Judging.{HoldsLeaf}
use Rattle.der_codec.specs.Levels.{IsSpot, IsLevel, inwards}
use Rattle.der_codec.specs.declared.decoder.Decoder.{Decoder}
use Rattle.der_codec.specs.declared.decoder.Due.{Due}
use Rattle.der_codec.specs.declared.level.Level.{Level}
use Rattle.der_codec.specs.declared.level.Spot.{Spot}

-- the pieces that are kept are those that the parts show which were read
abbrev pub Shows : DerMessage ℕ → List Level → Due → ℕ → ℕ → Option Region → List ℕ → Type 0
Shows m levels d start place None bytes = Unit {0}
Shows m levels d start place (Some kept) bytes = (r : Reads m levels d start place bytes) → PartsShow m Start 0 r.parts kept.pieces

abbrev pub KeepsShown : DerMessage ℕ → Decoder → Option Region → List ℕ → Type 0
KeepsShown m d kept bytes = Shows m (inwards d.levels.items) d.due d.start d.place kept bytes

-- where none are kept, none are from then on
abbrev pub StaysAlone : Option Region → Option Region → Type 0
StaysAlone old new = old ≡ None → new ≡ None

-- where pieces are kept, these come behind them
abbrev pub PiecesGoOn : Option Region → Option Region → List Piece → Type 0
PiecesGoOn None None more = Unit {0}
PiecesGoOn (Some old) (Some new) more = new.pieces ≡ old.pieces ++ more
PiecesGoOn _ _ more = ⊥

-- where pieces are kept, these elements are open behind them, the innermost first
abbrev pub AreOpen : Option Region → List Edge → Type 0
AreOpen None edges = Unit {0}
AreOpen (Some kept) edges = open_in kept.pieces ≡ edges

-- where pieces are kept, there are none yet
abbrev pub AreNone : Option Region → Type 0
AreNone None = Unit {0}
AreNone (Some kept) = kept.pieces ≡ []

-- the constructed values that are open, the innermost first
abbrev pub around_of : {P : Type 0} → State P → List (states.DerLevel P)
around_of Start = []
around_of (AwaitsLength constructed spot names around) = around
around_of (AwaitsContents spot names count around) = around
around_of (Within levels) = levels

-- what identifier octets show behind which the state is this
abbrev pub begun_pieces : DerMessage ℕ → State ℕ → List Piece
begun_pieces m (AwaitsLength constructed spot names around) = begin_each (elements_ended m around)
begun_pieces m state = []

-- the octets are the contents of this leaf, in the value at the spot
abbrev pub HoldsLeafAt : DerMessage ℕ → Spot → List ℕ → Leaf → Type 0
HoldsLeafAt m spot octets leaf = (of : structures.Spot ℕ) → IsSpot m.forms spot of → HoldsLeaf m (structure m of) octets leaf

-- the leaf of the octets comes behind the pieces that are kept
abbrev pub GoesOnByLeaf : DerMessage ℕ → Spot → List ℕ → Option Region → Option Region → Type 0
GoesOnByLeaf m spot octets old new = (leaf : Leaf) × HoldsLeafAt m spot octets leaf × PiecesGoOn old new (Holds leaf ∷ [])

-- the elements that began with the last component of the value at this level
abbrev pub AreLast : DerMessage ℕ → Level → List Edge → Type 0
AreLast m around edges = (l : states.DerLevel ℕ) → IsLevel m.forms around l → edges ≡ last_elements m l.spot l.came

-- the value at the spot is the last of these components that came
abbrev pub IsLastOf : List (Component ℕ) → List ℕ → structures.Spot ℕ → Type 0
IsLastOf cs [] spot = ⊥
IsLastOf cs (k ∷ came) spot = (c : Component ℕ) × (slice_get cs k ≡ Some c) × (spot ≡ c.spot)

-- the value at the spot is the component that came last in the value at this level
abbrev pub IsLastSpot : DerMessage ℕ → Level → Spot → Type 0
IsLastSpot m around spot = (l : states.DerLevel ℕ) × IsLevel m.forms around l × (of : structures.Spot ℕ) × IsSpot m.forms spot of × IsLastOf (components_of (structure m l.spot)) l.came of

-- behind pieces the elements begin of the last component of the value at this level
abbrev pub ShowsBegun : DerMessage ℕ → Level → List Piece → List Piece → Type 0
ShowsBegun m around old new = (edges : List Edge) × AreLast m around edges × (new ≡ old ++ begin_each edges)

-- the same with a leaf, which is that component, and the ends of the elements
abbrev pub ShowsLeaf : DerMessage ℕ → Level → Leaf → List Piece → List Piece → Type 0
ShowsLeaf m around leaf old new = (edges : List Edge) × AreLast m around edges × (new ≡ old ++ (begin_each edges ++ Holds leaf ∷ end_each edges))

-- the same where pieces are kept
abbrev pub GoOnByBegun : DerMessage ℕ → Level → Option Region → Option Region → Type 0
GoOnByBegun m around None None = Unit {0}
GoOnByBegun m around (Some old) (Some new) = ShowsBegun m around old.pieces new.pieces
GoOnByBegun m around _ _ = ⊥

abbrev pub GoOnByLeaf : DerMessage ℕ → Level → Leaf → Option Region → Option Region → Type 0
GoOnByLeaf m around leaf None None = Unit {0}
GoOnByLeaf m around leaf (Some old) (Some new) = ShowsLeaf m around leaf old.pieces new.pieces
GoOnByLeaf m around leaf _ _ = ⊥

-- the leaf of the octets, which is the last component of the value at this level, comes behind the pieces that are kept
abbrev pub GoesOnByLast : DerMessage ℕ → Level → Spot → List ℕ → Option Region → Option Region → Type 0
GoesOnByLast m around spot octets old new = (leaf : Leaf) × HoldsLeafAt m spot octets leaf × GoOnByLeaf m around leaf old new

-- These bytes were read, the last of which are the contents of a leaf. It is the last piece that is kept: the elements are open that are round it, and with
-- the ends of those that end with it the pieces are those that are shown.
pub record EndsLeaf (m : DerMessage ℕ) (d : Decoder) (kept : Option Region) (bytes : List ℕ) : Type 0 where
  pub read : HasReadParts m d bytes
  pub around : (r : HasReadParts m d bytes) → AreOpen kept (elements_around m (around_of r.state))
  pub closes : (new : Option Region) → ((r : HasReadParts m d bytes) → PiecesGoOn kept new (end_each (elements_ended m (around_of r.state)))) → KeepsShown m d new bytes
