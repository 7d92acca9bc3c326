-- The texts of why an instance is not accepted, or not transcoded, each one line without its end.
use Rattle.std.specs.Prelude.{ℕ, List, codes}
use Rattle.message_model.specs.ErrorTexts.{instance_fault_text}
use Rattle.transcoder.specs.declared.check_error.CheckError.{CheckError}
use Rattle.transcoder.specs.declared.check_error.CheckError.TheVariants as check
use Rattle.transcoder.specs.declared.trans_error.TransError.{TransError}
use Rattle.transcoder.specs.declared.trans_error.TransError.TheVariants as trans

abbrev pub check_error_text : CheckError → List ℕ
check_error_text (check.Refused fault) = instance_fault_text fault
check_error_text check.ReadFault = codes "the source failed"
check_error_text check.Memory = codes "out of memory"

abbrev pub trans_error_text : TransError → List ℕ
trans_error_text (trans.Refused fault) = instance_fault_text fault
trans_error_text trans.ReadFault = codes "the source failed"
trans_error_text trans.WriteFault = codes "the sink failed"
trans_error_text trans.Memory = codes "out of memory"
