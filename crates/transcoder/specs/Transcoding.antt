-- How a transcoding of what a source has left into a sink ends.
use Rattle.std.specs.Prelude.{◌≡◌, ℕ, List, Option, IfSome, Result, Err}
use Rattle.std.specs.Io.KnownBytes.{IsAtEnd}
use Rattle.outside.specs.Pushes.{Pushes, as_push}
use Rattle.outside.specs.declared.errors.WriteError.{WriteError}
use Rattle.message_model.specs.declared.fault.Fault.{Fault}
use Rattle.transcoder.specs.declared.check_error.CheckError.{CheckError}
use Rattle.transcoder.specs.declared.trans_error.TransError.{TransError}
use Rattle.transcoder.specs.CheckErrors.{RefusesBy}
use Rattle.transcoder.specs.TransErrors.{trans_error, written_end}

-- The bytes are refused, or could not be read, and the sink is as it was; or they are an instance, the source is at its end, and a text
-- of the instance was pushed. IsText: what text may be pushed for which bytes; HasFault: their first faults.
pub data IsTranscoded {O : Type 0} (held : O → Option (List ℕ)) (faults room : O → ℕ) (IsText : List ℕ → List ℕ → Type 0) (HasFault : List ℕ → Fault → Type 0)
    (left left' : Option (List ℕ)) (old new : O) (result : Result (Unit {0}) TransError) : Type 0 where
  unread : (e : CheckError) → result ≡ Err (trans_error e) → new ≡ old → IfSome left (λ bytes. RefusesBy HasFault bytes e)
      → IsTranscoded held faults room IsText HasFault left left' old new result
  pushed : (text : List ℕ) (push : Result (Unit {0}) WriteError) → result ≡ written_end push → IfSome left (λ bytes. IsText bytes text) → IsAtEnd left'
      → Pushes held faults room old new (as_push push) text → IsTranscoded held faults room IsText HasFault left left' old new result

-- A writer pushed a text that is one of these.
pub record IsWrittenOut {O : Type 0} (held : O → Option (List ℕ)) (faults room : O → ℕ) (IsOut : List ℕ → Type 0) (old new : O) (result : Result (Unit {0}) TransError) : Type 0 where
  pub text : List ℕ
  pub push : Result (Unit {0}) WriteError
  pub is_out : IsOut text
  pub ends : result ≡ written_end push
  pub pushes : Pushes held faults room old new (as_push push) text
