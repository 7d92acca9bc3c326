-- What a push does to the bytes that a sink holds, to its count of faults and to its room.
use Rattle.std.specs.Prelude.{◌≡◌, ℕ, ◌+◌, ◌<◌, ◌≤◌, List, length, take, Option, Result, MatchResult, IsErrOf}
use Rattle.std.specs.Io.KnownBytes.{Appends}
use Rattle.outside.specs.Source.{Rose}
use Rattle.outside.specs.declared.errors.SinkError.{SinkError}
use Rattle.outside.specs.declared.errors.SinkError.TheVariants.{Failed, Memory}

-- the sink holds what it held, followed by the first of the bytes
abbrev pub AppendsFront : Option (List ℕ) → Option (List ℕ) → List ℕ → Type 0
AppendsFront old new bytes = (n : ℕ) × Appends old new (take n bytes)

-- the sink holds what it held, followed by all of the bytes at Ok, and by the first of them at an error
abbrev pub PushAppends : {T E : Type 0} → Option (List ℕ) → Option (List ℕ) → Result T E → List ℕ → Type 0
PushAppends old new result bytes = MatchResult result (λ _. Appends old new bytes) (λ _. AppendsFront old new bytes)

-- a sink's count of faults rises at Failed alone, and Failed is told only where it rose
pub record HasSinkCause {T : Type 0} (before now : ℕ) (result : Result T SinkError) : Type 0 where
  pub later : before ≤ now
  pub failed : IsErrOf result Failed → Rose before now
  pub same : (IsErrOf result Failed → ⊥) → now ≡ before

-- Memory is told only where the bytes are more than the room, and the room falls by at most their number
pub record HasRoom {T : Type 0} (before now : ℕ) (result : Result T SinkError) (bytes : List ℕ) : Type 0 where
  pub falls : before ≤ now + length bytes
  pub memory : IsErrOf result Memory → before < length bytes
