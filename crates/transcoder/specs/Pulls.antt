-- How far a source is pulled where its instance is refused.
use Rattle.std.specs.Prelude.{◌≡◌, ℕ, ◌≤◌, List, length, Option}
use Rattle.std.specs.Io.KnownBytes.{Consumes}
use Rattle.lexical_core.specs.declared.rule.Rule.{Rule}
use Rattle.outside.specs.Pulls.{StopsSoon}
use Rattle.message_model.specs.declared.fault.Fault.{Fault}
use Rattle.transcoder.specs.declared.check_error.CheckError.{CheckError}
use Rattle.transcoder.specs.declared.check_error.CheckError.TheVariants as check
use Rattle.transcoder.specs.declared.trans_error.TransError.{TransError}
use Rattle.transcoder.specs.declared.trans_error.TransError.TheVariants as trans
use Rattle.transcoder.specs.Limited.{most_bytes}

-- the bytes have no fault but that they end too early
abbrev pub MayBeFollowed : (List ℕ → Fault → Type 0) → Rule → List ℕ → Type 0
MayBeFollowed HasFault cut_rule bytes = (length bytes ≤ most_bytes) × ((fault : Fault) → HasFault bytes fault → fault.rule ≡ cut_rule)

-- How far a source was pulled where a fault is told. Where it failed, what it gave before has no fault but that it ends too early.
abbrev pub PullsToFault : (List ℕ → Fault → Type 0) → Rule → Option (List ℕ) → Option (List ℕ) → CheckError → Type 0
PullsToFault HasFault cut_rule old new (check.Refused fault) = StopsSoon (MayBeFollowed HasFault cut_rule) old new
PullsToFault HasFault cut_rule old new check.ReadFault = (taken : List ℕ) × Consumes old new taken × MayBeFollowed HasFault cut_rule taken
PullsToFault HasFault cut_rule old new check.Memory = Unit {0}

-- the same of a transcoding
abbrev pub PullsToTransFault : (List ℕ → Fault → Type 0) → Rule → Option (List ℕ) → Option (List ℕ) → TransError → Type 0
PullsToTransFault HasFault cut_rule old new (trans.Refused fault) = StopsSoon (MayBeFollowed HasFault cut_rule) old new
PullsToTransFault HasFault cut_rule old new trans.ReadFault = (taken : List ℕ) × Consumes old new taken × MayBeFollowed HasFault cut_rule taken
PullsToTransFault HasFault cut_rule old new trans.WriteFault = Unit {0}
PullsToTransFault HasFault cut_rule old new trans.Memory = Unit {0}
