-- What is open, and a fault, with each place moved: those of a message whose first octet stands at a place of its own, as that of one behind another in
-- a stream does.
use Rattle.std.specs.Prelude.{ℕ, ◌+◌, List, [], ◌∷◌}
use Rattle.der_model.specs.States.{DerLevel, State, Start, AwaitsLength, AwaitsContents, Within}
use Rattle.der_model.specs.Faults.{FaultInDer}

-- open values that end so much further on
abbrev pub moved_levels : {P : Type 0} → ℕ → List (DerLevel P) → List (DerLevel P)
moved_levels base [] = []
moved_levels base (l ∷ ls) = record l { end = base + l.end } ∷ moved_levels base ls

-- the same is open, so much further on; a count of octets is no place
abbrev pub moved_state : {P : Type 0} → ℕ → State P → State P
moved_state base Start = Start
moved_state base (AwaitsLength constructed spot names around) = AwaitsLength constructed spot names (moved_levels base around)
moved_state base (AwaitsContents spot names count around) = AwaitsContents spot names count (moved_levels base around)
moved_state base (Within levels) = Within (moved_levels base levels)

-- the same fault, so much further on
abbrev pub moved_fault : ℕ → FaultInDer → FaultInDer
moved_fault base fault = record fault { place = base + fault.place }
