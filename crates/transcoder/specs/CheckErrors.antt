-- What an error of a reading says of bytes, and what that of a reader of instances is to it.
use Rattle.std.specs.Prelude.{ℕ, List}
use Rattle.message_model.specs.declared.fault.Fault.{Fault}
use Rattle.message_model.specs.declared.fault.InstanceError.{InstanceError}
use Rattle.message_model.specs.declared.fault.InstanceError.TheVariants as checker
use Rattle.transcoder.specs.declared.check_error.CheckError.{CheckError}
use Rattle.transcoder.specs.declared.check_error.CheckError.TheVariants.{Refused, Memory}

abbrev pub check_error : InstanceError → CheckError
check_error (checker.Refused fault) = Refused fault
check_error checker.Memory = Memory

-- the bytes have the fault; that a source failed is said by its count
abbrev pub RefusesBy : (List ℕ → Fault → Type 0) → List ℕ → CheckError → Type 0
RefusesBy HasFault bytes (Refused fault) = HasFault bytes fault
RefusesBy HasFault bytes _ = Unit {0}

-- the fault is one of some bytes, also where the source does not tell its own
abbrev pub IsOfSome : (List ℕ → Fault → Type 0) → CheckError → Type 0
IsOfSome HasFault (Refused fault) = (bytes : List ℕ) × HasFault bytes fault
IsOfSome HasFault _ = Unit {0}
