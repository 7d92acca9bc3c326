-- What a checker was given, and what it answers, where the first of the bytes stands at a place of its own, as that of a message behind another in a stream
-- does. The checker counts from that byte: what it tells stands as far on.
use Rattle.std.specs.Prelude.{◌≡◌, ℕ, ◌+◌, List, ◌++◌, length}
use Rattle.message_model.specs.Tables.{Tables}
use Rattle.message_model.specs.declared.fault.InstanceError.{InstanceError}
use Rattle.message_model.specs.declared.fault.InstanceError.TheVariants.{Refused, Memory}
use Rattle.der_model.specs.DerMessage.{der_message}
use Rattle.der_model.specs.States.{State, Start, Part}
use Rattle.der_model.specs.Faults.{DerFront, DerFaultFrom, IsWholeDerFrom}
use Rattle.der_model.specs.MovedPlaces.{moved_state, moved_fault}
use Rattle.der_codec.specs.Decoding.{IsOpenState, IsBegun}
use Rattle.der_codec.specs.Levels.{inwards}
use Rattle.der_codec.specs.Checking.{der_fault_of}
use Rattle.der_codec.specs.declared.decoder.Decoder.{Decoder}

-- From this place on the bytes are clean parts and the beginning of one, and what is open then is what the decoder has, as far on.
pub record ReadsFrom (T : Tables) (base : ℕ) (d : Decoder) (bytes : List ℕ) : Type 0 where
  pub parts : List Part
  pub state : State ℕ
  pub rest : List ℕ
  pub front : DerFront (der_message T) Start base bytes parts (moved_state base state) (base + d.start) rest
  pub is_open : IsOpenState (der_message T) (inwards d.levels.items) d.due state
  pub is_begun : IsBegun d.due state rest
  pub place_is : d.place ≡ d.start + length rest

-- why a checker does not go on: the bytes have this fault from the place on, whatever follows them
abbrev pub DerStopsFrom : Tables → ℕ → List ℕ → InstanceError → Type 0
DerStopsFrom T base bytes (Refused fault) = (behind : List ℕ) → DerFaultFrom (der_message T) base (bytes ++ behind) (moved_fault base (der_fault_of fault))
DerStopsFrom T base bytes Memory = Unit {0}

-- why the bytes are refused at their end
abbrev pub DerEndsFrom : Tables → ℕ → List ℕ → InstanceError → Type 0
DerEndsFrom T base bytes (Refused fault) = DerFaultFrom (der_message T) base bytes (moved_fault base (der_fault_of fault))
DerEndsFrom T base bytes Memory = Unit {0}

-- the bytes are an instance's from the place on, which ends as far on as there are of them: there the next message begins
abbrev pub IsWholeFrom : Tables → ℕ → List ℕ → Type 0
IsWholeFrom T base bytes = (whole : IsWholeDerFrom (der_message T) base bytes) × (whole.at ≡ base + length bytes)
