-- What the errors of a reading and of a writer are to a transcoding, and what its own says of bytes.
use Rattle.std.specs.Prelude.{ℕ, List, Result, Ok, Err}
use Rattle.outside.specs.declared.errors.WriteError.{WriteError}
use Rattle.outside.specs.declared.errors.WriteError.TheVariants as written
use Rattle.message_model.specs.declared.fault.Fault.{Fault}
use Rattle.transcoder.specs.declared.check_error.CheckError.{CheckError}
use Rattle.transcoder.specs.declared.check_error.CheckError.TheVariants as check
use Rattle.transcoder.specs.declared.trans_error.TransError.{TransError}
use Rattle.transcoder.specs.declared.trans_error.TransError.TheVariants.{Refused, ReadFault, WriteFault, Memory}

abbrev pub trans_error : CheckError → TransError
trans_error (check.Refused fault) = Refused fault
trans_error check.ReadFault = ReadFault
trans_error check.Memory = Memory

abbrev pub written_error : WriteError → TransError
written_error written.WriteFault = WriteFault
written_error written.Memory = Memory

-- how a transcoding ends whose text a writer pushed
abbrev pub written_end : {T : Type 0} → Result T WriteError → Result T TransError
written_end (Ok value) = Ok value
written_end (Err error) = Err (written_error error)

-- the fault is one of some bytes, also where the source does not tell its own
abbrev pub IsTransFaultOfSome : (List ℕ → Fault → Type 0) → TransError → Type 0
IsTransFaultOfSome HasFault (Refused fault) = (bytes : List ℕ) × HasFault bytes fault
IsTransFaultOfSome HasFault _ = Unit {0}
