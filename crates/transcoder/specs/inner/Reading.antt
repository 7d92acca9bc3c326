-- How far a source is read, and what the reader that it is fed to says of the bytes.
use Rattle.std.specs.Prelude.{◌≡◌, ◌≢◌, ℕ, ◌+◌, ◌<◌, ◌≤◌, ◌++◌, List, length, Option, IfSome, Result, Ok, Err, codes}
use Rattle.std.specs.Io.KnownBytes.{Consumes, IsAtEnd}
use Rattle.lexical_core.specs.declared.rule.Rule.{Rule}
use Rattle.message_model.specs.declared.fault.Fault.{Fault}
use Rattle.message_model.specs.declared.fault.InstanceError.{InstanceError}
use Rattle.message_model.specs.declared.fault.InstanceError.TheVariants as reader
use Rattle.transcoder.specs.declared.check_error.CheckError.{CheckError}
use Rattle.transcoder.specs.declared.check_error.CheckError.TheVariants.{Refused, ReadFault, Memory}
use Rattle.transcoder.specs.declared.reading.Extent.{Extent}
use Rattle.transcoder.specs.declared.reading.Extent.TheVariants.{Whole, Longer}
use Rattle.transcoder.specs.Limited.{most_bytes, too_many}
use Rattle.transcoder.specs.CheckErrors.{RefusesBy, IsOfSome, check_error}

-- Bytes of the source were taken and fed to the reader, and so many more may still be.
pub record HasReadSource {S : Type 0} (Fed : S → List ℕ → Type 0) (Made : S → Type 0) (old now : Option (List ℕ)) (room : ℕ) (state : S) : Type 0 where
  pub taken_are : List ℕ
  pub front : Consumes old now taken_are
  pub counted : length taken_are + room ≡ most_bytes
  pub made : Made state
  pub fed_are : Fed state taken_are

-- A reader, as it was once, was fed these bytes.
abbrev pub WasFed : {S : Type 0} → (S → List ℕ → Type 0) → List ℕ → Type 0
WasFed {S} Fed bytes = (length bytes ≤ most_bytes) × (earlier : S) × Fed earlier bytes

-- that there are more bytes than the limit, with the path
abbrev pub IsTooManyBytes : List ℕ → CheckError → Type 0
IsTooManyBytes path (Refused fault) = fault ≡ too_many path
IsTooManyBytes path _ = ⊥

-- what is told of bytes beyond the limit, where those before are an instance
abbrev pub IsBeyondWhole : CheckError → Type 0
IsBeyondWhole (Refused fault) = fault ≡ too_many (codes "/")
IsBeyondWhole Memory = Unit {0}
IsBeyondWhole ReadFault = ⊥

-- the same where their end has this error
abbrev pub IsBeyondError : InstanceError → CheckError → Type 0
IsBeyondError (reader.Refused before) (Refused fault) = fault ≡ too_many before.path
IsBeyondError e Memory = Unit {0}
IsBeyondError e _ = ⊥

-- by what the end of those before would be
abbrev pub EndsBeyond : {W : Type 0} → Result W InstanceError → CheckError → Type 0
EndsBeyond (Ok x) e = IsBeyondWhole e
EndsBeyond (Err before) e = IsBeyondError before e

-- the end, as it is told
abbrev pub end_told : {W : Type 0} → Result W InstanceError → Result W CheckError
end_told (Ok x) = Ok x
end_told (Err e) = Err (check_error e)

-- Bytes up to the limit were fed to the reader, and more came.
pub record HasReadBeyond {S : Type 0} (Fed : S → List ℕ → Type 0) (old now : Option (List ℕ)) (state : S) : Type 0 where
  pub within : List ℕ
  pub behind : List ℕ
  pub front : Consumes old now (within ++ behind)
  pub full : length within ≡ most_bytes
  pub more : 0 < length behind
  pub fed_are : Fed state within

-- what the error says of the bytes that the source had left, and of some bytes
pub record SaysError (HasFault : List ℕ → Fault → Type 0) (old : Option (List ℕ)) (e : CheckError) : Type 0 where
  pub refused : IfSome old (λ bytes. RefusesBy HasFault bytes e)
  pub placed : IsOfSome HasFault e

-- how far the source was read
abbrev pub ReadsTo : {S : Type 0} → (S → List ℕ → Type 0) → (S → Type 0) → (List ℕ → Fault → Type 0) → Option (List ℕ) → Option (List ℕ) → S → Result Extent CheckError → Type 0
ReadsTo Fed Made HasFault old now state (Ok Whole) = (room : ℕ) × HasReadSource Fed Made old now room state × IsAtEnd now
ReadsTo Fed Made HasFault old now state (Ok Longer) = HasReadBeyond Fed old now state
ReadsTo Fed Made HasFault old now state (Err e) = SaysError HasFault old e

-- the answer, by how far the source was read and what the end is
abbrev pub Concludes : {W : Type 0} → Result Extent CheckError → Result W InstanceError → Result W CheckError → Type 0
Concludes (Ok Whole) end result = result ≡ end_told end
Concludes (Ok Longer) end (Ok x) = ⊥
Concludes (Ok Longer) end (Err e) = EndsBeyond end e
Concludes (Err e) end result = result ≡ Err e

-- something is given of the bytes
abbrev pub GivesSome : {W : Type 0} → (List ℕ → W → Type 0) → List ℕ → Type 0
GivesSome {W} Gives bytes = (given : W) × Gives bytes given

-- The bytes have this first fault, whatever follows them, and it is not that they end too early.
pub record ShowsFault (IsFaulty : List ℕ → Fault → Type 0) (cut_rule : Rule) (bytes : List ℕ) (fault : Fault) : Type 0 where
  pub has_fault : (behind : List ℕ) → IsFaulty (bytes ++ behind) fault
  pub no_cut : fault.rule ≢ cut_rule

-- why a reader does not go on
abbrev pub StopsAt : (List ℕ → Fault → Type 0) → Rule → List ℕ → InstanceError → Type 0
StopsAt IsFaulty cut_rule bytes (reader.Refused fault) = ShowsFault IsFaulty cut_rule bytes fault
StopsAt IsFaulty cut_rule bytes reader.Memory = Unit {0}

-- why the bytes are refused at their end
abbrev pub EndsBy : (List ℕ → Fault → Type 0) → List ℕ → InstanceError → Type 0
EndsBy IsFaulty bytes (reader.Refused fault) = IsFaulty bytes fault
EndsBy IsFaulty bytes reader.Memory = Unit {0}
