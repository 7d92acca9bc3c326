-- A push as one fact: what a sink holds behind it, which of its errors may come, and how far its room falls.
use Rattle.std.specs.Prelude.{ℕ, List, Option, Result, Ok, Err}
use Rattle.outside.specs.Sink.{PushAppends, HasSinkCause, HasRoom}
use Rattle.outside.specs.declared.errors.SinkError.{SinkError}
use Rattle.outside.specs.declared.errors.SinkError.TheVariants as sink
use Rattle.outside.specs.declared.errors.WriteError.{WriteError}
use Rattle.outside.specs.declared.errors.WriteError.TheVariants as written

-- The meanings of the sink (what it holds, its count of faults, its room), the sink before and behind, the answer, and the bytes.
pub record Pushes {S T : Type 0} (held : S → Option (List ℕ)) (faults room : S → ℕ) (old new : S) (result : Result T SinkError) (bytes : List ℕ) : Type 0 where
  pub appends : PushAppends (held old) (held new) result bytes
  pub cause : HasSinkCause (faults old) (faults new) result
  pub takes : HasRoom (room old) (room new) result bytes

-- a writer's error, as the error of its sink
abbrev pub sink_error : WriteError → SinkError
sink_error written.WriteFault = sink.Failed
sink_error written.Memory = sink.Memory

-- a writer's answer, as the answer of a push
abbrev pub as_push : {T : Type 0} → Result T WriteError → Result T SinkError
as_push (Ok value) = Ok value
as_push (Err error) = Err (sink_error error)
