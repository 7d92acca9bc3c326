-- What the laws on messages that begin at a place of their own say.
use Rattle.std.specs.Prelude.{◌≡◌, ◌↔◌, ℕ, ◌+◌, ◌≤◌, List, length}
use Rattle.lexical_core.specs.declared.rule.Rule.{Rule}
use Rattle.der_model.specs.DerMessage.{DerMessage}
use Rattle.der_model.specs.States.{Part, State}
use Rattle.der_model.specs.Faults.{DerFront, NextPart, FaultInDer, DerFault, DerFaultFrom, IsWholeDer, IsWholeDerFrom}
use Rattle.der_model.specs.MovedPlaces.{moved_state, moved_fault}

-- Parts that break no rule in a moved state, from a place moved as far, are those that break none in the state itself, and leave what these leave, moved.
abbrev pub FrontMoves : {P : Type 0} → DerMessage P → Type 0
FrontMoves {P} m = (base : ℕ) (state : State P) (place : ℕ) (bytes : List ℕ) (parts : List Part) (last : State P) (at : ℕ) (rest : List ℕ) → DerFront m (moved_state base state) (base + place) bytes parts last at rest
    ↔ ((left : State P) × (end : ℕ) × (last ≡ moved_state base left) × (at ≡ base + end) × DerFront m state place bytes parts left end rest)

-- What stands next breaks the same rule there, as far behind the place.
abbrev pub NextPartMoves : {P : Type 0} → DerMessage P → Type 0
NextPartMoves {P} m = (base : ℕ) (state : State P) (place : ℕ) (bytes : List ℕ) (rule : Rule) (off : ℕ) (added : List ℕ) → NextPart m state place bytes rule off added
    ↔ NextPart m (moved_state base state) (base + place) bytes rule off added

-- Of bytes that begin at a place the first fault is that of the bytes, as far on.
abbrev pub PlacesMove : {P : Type 0} → DerMessage P → Type 0
PlacesMove m = (base : ℕ) (bytes : List ℕ) (fault : FaultInDer) → DerFault m bytes fault ↔ DerFaultFrom m base bytes (moved_fault base fault)

-- No fault of bytes that begin at a place is told before it.
abbrev pub NoFaultBefore : {P : Type 0} → DerMessage P → Type 0
NoFaultBefore m = (base : ℕ) (bytes : List ℕ) (fault : FaultInDer) → DerFaultFrom m base bytes fault → base ≤ fault.place

-- Bytes are whole wherever they begin.
abbrev pub WholeMoves : {P : Type 0} → DerMessage P → Type 0
WholeMoves m = (base : ℕ) (bytes : List ℕ) → IsWholeDer m bytes ↔ IsWholeDerFrom m base bytes

-- Whole bytes end as far on as there are octets of them: there the next message of a stream begins.
abbrev pub WholeEnds : {P : Type 0} → DerMessage P → Type 0
WholeEnds m = (base : ℕ) (bytes : List ℕ) (whole : IsWholeDerFrom m base bytes) → whole.at ≡ base + length bytes
