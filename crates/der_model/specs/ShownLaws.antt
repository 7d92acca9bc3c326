-- What the laws on the pieces that parts of DER show say.
use Rattle.std.specs.Prelude.{◌≡◌, ℕ, List, [], ◌∷◌, ◌++◌}
use Rattle.data_types.specs.Value.{Value, Piece}
use Rattle.message_model.specs.Tables.{pieces}
use Rattle.der_model.specs.DerMessage.{DerMessage}
use Rattle.der_model.specs.Der.{SpellsDer}
use Rattle.der_model.specs.States.{Part, State, Start, Within}
use Rattle.der_model.specs.Faults.{DerFront}
use Rattle.der_model.specs.ShownPieces.{PartShows, PartsShow}
use Rattle.der_model.specs.NestedPieces.{Nests, open_elements}

-- Parts that break no rule up to the end of the instance show the pieces of the instance that the bytes spell.
abbrev pub WholeShowsPieces : DerMessage ℕ → Type 0
WholeShowsPieces m = (bytes : List ℕ) (parts : List Part) (at : ℕ) (shown : List Piece) → DerFront m Start 0 bytes parts (Within []) at [] → PartsShow m Start 0 parts shown
    → (v : Value) × SpellsDer m bytes v × (shown ≡ pieces m.fragment m.forms m.root v)

-- Parts that break no rule show some pieces.
abbrev pub FrontShowsPieces : DerMessage ℕ → Type 0
FrontShowsPieces m = (before state : State ℕ) (place at : ℕ) (bytes rest : List ℕ) (parts : List Part) → DerFront m before place bytes parts state at rest → (shown : List Piece) × PartsShow m before place parts shown

-- Parts show one list of pieces.
abbrev pub ShowOnePieces : DerMessage ℕ → Type 0
ShowOnePieces m = (before : State ℕ) (place : ℕ) (parts : List Part) (one two : List Piece) → PartsShow m before place parts one → PartsShow m before place parts two → one ≡ two

-- One part more, in the state behind those that came, shows its pieces behind theirs.
abbrev pub OneMoreShows : DerMessage ℕ → Type 0
OneMoreShows m = (before state : State ℕ) (place at : ℕ) (bytes rest : List ℕ) (parts : List Part) (part : Part) (shown more : List Piece) → DerFront m before place bytes parts state at rest → PartsShow m before place parts shown
    → PartShows m state part more → PartsShow m before place (parts ++ part ∷ []) (shown ++ more)

-- The pieces that parts show nest: behind those from the start on the elements of the state are open.
abbrev pub FrontNests : DerMessage ℕ → Type 0
FrontNests m = (before state : State ℕ) (place at : ℕ) (bytes rest : List ℕ) (parts : List Part) (shown : List Piece) → DerFront m before place bytes parts state at rest → PartsShow m before place parts shown
    → Nests (open_elements m before) shown (open_elements m state)
