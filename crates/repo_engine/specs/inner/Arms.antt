-- What one command does, and what reading a repository and its codes does.
use Rattle.std.specs.Prelude.{◌≡◌, ◌≢◌, ◌⊎◌, ◌≤◌, ℕ, Bool, true, false, length, List, [], Option, Some, Result, Ok, Err, IfErr}
use Rattle.std.specs.Io.KnownBytes.{Consumes}
use Rattle.outside.specs.Pulls.{StopsSoon}
use Rattle.outside.specs.declared.errors.SinkError.{SinkError}
use Rattle.outside.specs.declared.errors.SinkError.TheVariants as sink
use Rattle.repo_objects.specs.Repository.{Contents}
use Rattle.repo_loader.specs.LoadErrors.{ShowsNoLoadFault}
use Rattle.repo_loader.specs.Loaded.{Spells}
use Rattle.repo_loader.specs.declared.fault.LoadError.{LoadError}
use Rattle.repo_loader.specs.declared.fault.LoadError.TheVariants as load_error
use Rattle.code_sets.specs.declared.errors.CodesError.{CodesError}
use Rattle.code_sets.specs.declared.errors.CodesError.TheVariants as codes_error
use Rattle.code_sets.specs.declared.record.CodeRecord.{CodeRecord}
use Rattle.code_sets.specs.Codes.{ReadsCodes, codes_limit}
use Rattle.code_sets.specs.CodesErrors.{AreCodesPulled, AreFewBytes}
use Rattle.reference_check.specs.declared.reached.ReadyError.{ReadyError}
use Rattle.reference_check.specs.declared.reached.ReadyError.TheVariants as ready
use Rattle.transcoder.specs.declared.check_error.CheckError.{CheckError}
use Rattle.transcoder.specs.declared.check_error.CheckError.TheVariants as check
use Rattle.transcoder.specs.declared.trans_error.TransError.{TransError}
use Rattle.transcoder.specs.declared.trans_error.TransError.TheVariants as trans
use Rattle.repo_engine.specs.declared.refusal.Stop.{Stop}
use Rattle.repo_engine.specs.declared.refusal.Stop.TheVariants.{Refused, ReadFault, WriteFault, Memory}
use Rattle.repo_engine.specs.declared.refusal.Refusal.TheVariants.{Words, Repository, Codes, Message, Instance}
use Rattle.repo_engine.specs.Answer.{IsVerdictOf, HasCompiledMessage}
use Rattle.repo_engine.specs.Command.{Command, pulled_by, hands_in}
use Rattle.repo_engine.specs.Pulls.{HadShownNone, StopsFilesSoon, StopsInstanceSoon}
use Rattle.repo_engine.specs.Run.{End, GoesOut, HasFilesTold, HaveLeft, TellsOfFiles, TellsOfRepository, TellsVerdict}
use Rattle.repo_engine.specs.Sources.{Use, AreUsed, Ended, IsSourceRead, Untouched, Failing, Refusing, Whole, source_ended_of}
use Rattle.repo_engine.specs.Verdict.{Verdict, refused}

-- what a command does
pub record Carries {R C I O : Type 0} (command : Command) (repo : Use R) (codes : Use C) (inst : Use I)
    (held : O → Option (List ℕ)) (faults : O → ℕ) (old new : O) (end : End) : Type 0 where
  pub no_words : end ≢ Err (Refused Words)
  pub sources : AreUsed (pulled_by command).repository (pulled_by command).codes (pulled_by command).instance (source_ended_of end) repo codes inst
  pub verdict : (r c i : List ℕ) → HaveLeft command (repo.left repo.old) (codes.left codes.old) (inst.left inst.old) r c i
      → TellsVerdict (IsVerdictOf command r c i) end (held old) (held new)
  pub repository_verdict : (r : List ℕ) → repo.left repo.old ≡ Some r → TellsOfRepository r end
  pub files_verdict : (r c : List ℕ) → HasFilesTold command (repo.left repo.old) (codes.left codes.old) r c → TellsOfFiles command r c end
  pub files_pulled : IfErr end (λ stop. StopsFilesSoon repo codes inst stop)
  pub instance_pulled : (r c : List ℕ) → HasFilesTold command (repo.left repo.old) (codes.left codes.old) r c → IfErr end (λ stop. StopsInstanceSoon (λ i. IsVerdictOf command r c i) inst stop)
  pub codes_behind : (r : List ℕ) → repo.left repo.old ≡ Some r → Untouched codes ⊎ ((own : Contents) × Spells r own)
  pub instance_behind : (r c : List ℕ) → HasFilesTold command (repo.left repo.old) (codes.left codes.old) r c → Untouched inst ⊎ HasCompiledMessage command r c
  pub out : GoesOut held faults old new end

-- the bytes are not too many, and say these codes
abbrev pub IsCodesText : List ℕ → List CodeRecord → Type 0
IsCodesText bytes lists = (length bytes ≤ codes_limit) × ReadsCodes bytes lists

-- a stop that refuses tells this refusal
abbrev pub StopsBy : (Verdict → Type 0) → Stop → Type 0
StopsBy Refuses (Refused refusal) = Refuses (refused refusal [])
StopsBy Refuses stop = Unit {0}

-- a sink's error, as a stop
abbrev pub sink_stop : SinkError → Stop
sink_stop sink.Failed = WriteFault
sink_stop sink.Memory = Memory

-- how a push ends a command
abbrev pub end_of : Result (Unit {0}) SinkError → End
end_of (Ok done) = Ok done
end_of (Err error) = Err (sink_stop error)

-- why a repository is not loaded, as a stop
abbrev pub load_stop : LoadError → Stop
load_stop (load_error.Refused fault) = Refused (Repository fault)
load_stop load_error.ReadFault = ReadFault
load_stop load_error.Memory = Memory

-- why codes are refused, as a stop
abbrev pub codes_stop : CodesError → Stop
codes_stop (codes_error.Refused rule number) = Refused (Codes rule number)
codes_stop codes_error.ReadFault = ReadFault
codes_stop codes_error.Memory = Memory

-- why a message is refused, as a stop
abbrev pub ready_stop : ReadyError → Stop
ready_stop (ready.Broken rule object) = Refused (Message rule object)
ready_stop ready.Memory = Memory

-- why an instance is refused, as a stop
abbrev pub check_stop : CheckError → Stop
check_stop (check.Refused fault) = Refused (Instance fault)
check_stop check.ReadFault = ReadFault
check_stop check.Memory = Memory

-- why an instance is not transcoded, as a stop
abbrev pub trans_stop : TransError → Stop
trans_stop (trans.Refused fault) = Refused (Instance fault)
trans_stop trans.ReadFault = ReadFault
trans_stop trans.WriteFault = WriteFault
trans_stop trans.Memory = Memory

-- how a transcoding ends a command
abbrev pub trans_end : Result (Unit {0}) TransError → End
trans_end (Ok done) = Ok done
trans_end (Err error) = Err (trans_stop error)

-- a stop while input is read: no words are refused, and no sink is asked
abbrev pub IsOfInput : Stop → Type 0
IsOfInput (Refused Words) = ⊥
IsOfInput (Refused refusal) = Unit {0}
IsOfInput ReadFault = Unit {0}
IsOfInput WriteFault = ⊥
IsOfInput Memory = Unit {0}

-- how far a repository was pulled where reading it stops; nothing else is refused then
abbrev pub StopsAtRepository : Option (List ℕ) → Option (List ℕ) → Stop → Type 0
StopsAtRepository repo repo' (Refused (Repository fault)) = StopsSoon ShowsNoLoadFault repo repo'
StopsAtRepository repo repo' (Refused refusal) = ⊥
StopsAtRepository repo repo' ReadFault = (taken : List ℕ) × Consumes repo repo' taken × ShowsNoLoadFault taken
StopsAtRepository repo repo' stop = Unit {0}

-- how far codes were pulled where reading them stops; nothing else is refused then
abbrev pub StopsAtCodes : Option (List ℕ) → Option (List ℕ) → Stop → Type 0
StopsAtCodes codes codes' (Refused (Codes rule number)) = AreCodesPulled codes codes'
StopsAtCodes codes codes' (Refused refusal) = ⊥
StopsAtCodes codes codes' ReadFault = (taken : List ℕ) × Consumes codes codes' taken × AreFewBytes taken
StopsAtCodes codes codes' stop = Unit {0}

-- how far both were pulled where a command stops before an instance is read; none is refused then
abbrev pub StopsAtFiles : {R C : Type 0} → Use R → Use C → Stop → Type 0
StopsAtFiles repo codes (Refused (Repository fault)) = StopsSoon ShowsNoLoadFault (repo.left repo.old) (repo.left repo.new) × Untouched codes
StopsAtFiles repo codes (Refused (Codes rule number)) = AreCodesPulled (codes.left codes.old) (codes.left codes.new)
StopsAtFiles repo codes (Refused (Instance fault)) = ⊥
StopsAtFiles repo codes ReadFault = HadShownNone ShowsNoLoadFault repo × HadShownNone AreFewBytes codes
StopsAtFiles repo codes stop = Unit {0}

-- a stop that refuses nothing but an instance
abbrev pub RefusesNoFiles : Stop → Type 0
RefusesNoFiles (Refused (Instance fault)) = Unit {0}
RefusesNoFiles (Refused refusal) = ⊥
RefusesNoFiles stop = Unit {0}

-- how far an instance was pulled where a command of a compiled message stops
abbrev pub StopsAtInstance : {I : Type 0} → (List ℕ → Verdict → Type 0) → Use I → Stop → Type 0
StopsAtInstance Answers inst stop = StopsInstanceSoon Answers inst stop × RefusesNoFiles stop

-- a source that is read, where it is asked
pub data IsReadIf {S : Type 0} (asked : Bool) (ended : Ended) (u : Use S) : Type 0 where
  unasked : asked ≡ false → ended ≡ Whole → Untouched u → IsReadIf asked ended u
  asked : asked ≡ true → IsSourceRead ended u → IsReadIf asked ended u

-- the bytes that reading a repository with that word for its codes needs
pub record FilesHaveLeft (codes_word : List ℕ) (repo_left codes_left : Option (List ℕ)) (r c : List ℕ) : Type 0 where
  pub repository : repo_left ≡ Some r
  pub codes : hands_in codes_word ≡ true → codes_left ≡ Some c

-- a source that the verb reads, or leaves alone; then its end is none of input
pub data IsReadAs {S : Type 0} (reads : Bool) (ended : Ended) (u : Use S) : Type 0 where
  unread : reads ≡ false → ended ≢ Failing → ended ≢ Refusing → Untouched u → IsReadAs reads ended u
  read : reads ≡ true → IsSourceRead ended u → IsReadAs reads ended u
