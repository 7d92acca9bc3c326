-- What the top call promises.
use Rattle.std.specs.Prelude.{◌≡◌, ◌⊎◌, ◌↔◌, ℕ, ◌≤◌, true, List, [], Option, Some, Result, Ok, Err, IfErr}
use Rattle.std.specs.Io.KnownBytes.{Appends, Keeps}
use Rattle.outside.specs.Source.{Rose}
use Rattle.outside.specs.Sink.{AppendsFront}
use Rattle.outside.specs.Pushes.{Pushes}
use Rattle.outside.specs.declared.errors.SinkError.{SinkError}
use Rattle.outside.specs.declared.errors.SinkError.TheVariants.{Failed}
use Rattle.outside.specs.declared.errors.SinkError.TheVariants as sink
use Rattle.repo_engine.specs.declared.refusal.Stop.{Stop}
use Rattle.repo_engine.specs.declared.refusal.Stop.TheVariants.{Refused, ReadFault, WriteFault, Memory}
use Rattle.repo_engine.specs.declared.refusal.Refusal.TheVariants.{Words, Repository, Instance}
use Rattle.repo_engine.specs.declared.status.Status.{Status}
use Rattle.repo_engine.specs.declared.status.Status.TheVariants as status
use Rattle.repo_objects.specs.Repository.{Contents}
use Rattle.repo_loader.specs.Loaded.{Spells}
use Rattle.repo_engine.specs.Answer.{Answer, HasCompiledMessage, RefusesUpToMessage, TellsFileFault}
use Rattle.repo_engine.specs.Command.{Command, message, HasCommandForm, IsUnlisted, pulled_by}
use Rattle.repo_engine.specs.Pulls.{StopsFilesSoon, StopsInstanceSoon}
use Rattle.repo_engine.specs.Sources.{Use, Untouched, AreUsed, source_ended_of}
use Rattle.repo_engine.specs.Verdict.{Verdict, accepted, refused, stop_line, stop_status}

-- how a command ends, before anything is noted
abbrev pub End : Type 0
End = Result (Unit {0}) Stop

-- the repository and its codes tell these bytes, where a command pulls from them
pub record HasFilesTold (command : Command) (repo_left codes_left : Option (List ℕ)) (r c : List ℕ) : Type 0 where
  pub repository : (pulled_by command).repository ≡ true → repo_left ≡ Some r
  pub codes : (pulled_by command).codes ≡ true → codes_left ≡ Some c

-- the sources that a command pulls from have these bytes left
pub record HaveLeft (command : Command) (repo_left codes_left inst_left : Option (List ℕ)) (r c i : List ℕ) : Type 0 where
  pub files : HasFilesTold command repo_left codes_left r c
  pub instance : (pulled_by command).instance ≡ true → inst_left ≡ Some i

-- the same of the command that words ask for
abbrev pub AreFilesTold : List (List ℕ) → Option (List ℕ) → Option (List ℕ) → List ℕ → List ℕ → Type 0
AreFilesTold ws repo_left codes_left r c = (command : Command) → HasCommandForm ws command → HasFilesTold command repo_left codes_left r c

abbrev pub AreSourcesLeft : List (List ℕ) → Option (List ℕ) → Option (List ℕ) → Option (List ℕ) → List ℕ → List ℕ → List ℕ → Type 0
AreSourcesLeft ws repo_left codes_left inst_left r c i = (command : Command) → HasCommandForm ws command → HaveLeft command repo_left codes_left inst_left r c i

-- The verdict that the end tells, and what went out with it: the whole text where it is Ok, and where a refusal has one. After a fault of the
-- sink, a front of the text that Ok would have brought; after want of memory such a front, or nothing.
abbrev pub TellsVerdict : (Verdict → Type 0) → End → Option (List ℕ) → Option (List ℕ) → Type 0
TellsVerdict Is (Ok done) out out' = (text : List ℕ) × Is (accepted text) × Appends out out' text
TellsVerdict Is (Err (Refused refusal)) out out' = (text : List ℕ) × Is (refused refusal text) × Appends out out' text
TellsVerdict Is (Err ReadFault) out out' = Unit {0}
TellsVerdict Is (Err WriteFault) out out' = (text : List ℕ) × Is (accepted text) × AppendsFront out out' text
TellsVerdict Is (Err Memory) out out' = Keeps out out' ⊎ ((text : List ℕ) × Is (accepted text) × AppendsFront out out' text)

-- A refusal of the repository is the verdict on its bytes, whatever the other sources tell.
abbrev pub TellsOfRepository : List ℕ → End → Type 0
TellsOfRepository r (Err (Refused (Repository fault))) = TellsFileFault r (refused (Repository fault) [])
TellsOfRepository r end = Unit {0}

-- What the end says of repository, codes and message, whatever the source of the instance tells: a refusal of one of them is the verdict on their
-- bytes; at each other end but a failed read and want of memory, the message is compiled from them.
abbrev pub TellsUpToMessage : (Verdict → Type 0) → Type 0 → End → Type 0
TellsUpToMessage Refuses Compiled (Ok done) = Compiled
TellsUpToMessage Refuses Compiled (Err (Refused (Instance fault))) = Compiled
TellsUpToMessage Refuses Compiled (Err (Refused refusal)) = Refuses (refused refusal [])
TellsUpToMessage Refuses Compiled (Err ReadFault) = Unit {0}
TellsUpToMessage Refuses Compiled (Err WriteFault) = Compiled
TellsUpToMessage Refuses Compiled (Err Memory) = Unit {0}

-- the same of a command: of one that compiles no message, the verdict on all that it reads says so
abbrev pub TellsOfFiles : Command → List ℕ → List ℕ → End → Type 0
TellsOfFiles (message verb codes_word id) r c end = TellsUpToMessage (RefusesUpToMessage codes_word id r c) (HasCompiledMessage (message verb codes_word id) r c) end
TellsOfFiles command r c end = Unit {0}

-- the sink is as it was
abbrev pub LeavesOut : End → Type 0
LeavesOut (Err (Refused refusal)) = Unit {0}
LeavesOut (Err ReadFault) = Unit {0}
LeavesOut _ = ⊥

-- What becomes of the sink for what goes out: nothing at a refusal or a failed source; its count of faults rises exactly where the end is WriteFault.
pub record GoesOut {O : Type 0} (held : O → Option (List ℕ)) (faults : O → ℕ) (old new : O) (end : End) : Type 0 where
  pub same : LeavesOut end → new ≡ old
  pub grows : (text : List ℕ) × Appends (held old) (held new) text
  pub failed : end ≡ Err WriteFault → Rose (faults old) (faults new)
  pub quiet : (end ≡ Err WriteFault → ⊥) → faults new ≡ faults old
  pub later : faults old ≤ faults new

-- the status behind the push of a stop's line
abbrev pub status_behind : Stop → Result (Unit {0}) SinkError → Status
status_behind stop (Ok done) = stop_status stop
status_behind stop (Err Failed) = status.WriteFault
status_behind WriteFault (Err sink.Memory) = status.WriteFault
status_behind stop (Err sink.Memory) = status.Memory

-- What is noted, and the status: nothing where the command was done, and else the line of the stop, as far as the sink for notes took it.
abbrev pub Notes : {N : Type 0} → (N → Option (List ℕ)) → (N → ℕ) → (N → ℕ) → N → N → End → Status → Type 0
Notes held faults room old new (Ok done) result = (result ≡ status.Done) × (new ≡ old)
Notes held faults room old new (Err stop) result =
    (push : Result (Unit {0}) SinkError) × Pushes held faults room old new push (stop_line stop) × (result ≡ status_behind stop push)

-- What a command does before anything is noted.
pub record Performs {R C I O : Type 0} (ws : List (List ℕ)) (repo : Use R) (codes : Use C) (inst : Use I)
    (held : O → Option (List ℕ)) (faults : O → ℕ) (old new : O) (end : End) : Type 0 where
  -- Words are refused exactly where they have the form of no command, and then nothing is touched.
  pub words : IsUnlisted ws ↔ (end ≡ Err (Refused Words))
  pub untouched : IsUnlisted ws → Untouched repo × Untouched codes × Untouched inst
  -- The sources that the command uses are read in turn, and the others are not touched.
  pub sources : (command : Command) → HasCommandForm ws command → AreUsed (pulled_by command).repository (pulled_by command).codes (pulled_by command).instance (source_ended_of end) repo codes inst
  -- Where those sources tell their bytes, the end is the verdict on words and bytes.
  pub verdict : (r c i : List ℕ) → AreSourcesLeft ws (repo.left repo.old) (codes.left codes.old) (inst.left inst.old) r c i → TellsVerdict (Answer ws r c i) end (held old) (held new)
  -- Where the repository tells its bytes, or it and its codes do, what is said of them is true, whatever the sources behind them tell.
  pub repository_verdict : (r : List ℕ) → repo.left repo.old ≡ Some r → TellsOfRepository r end
  pub files_verdict : (command : Command) → HasCommandForm ws command → (r c : List ℕ) → HasFilesTold command (repo.left repo.old) (codes.left codes.old) r c → TellsOfFiles command r c end
  -- Where something is refused, little was pulled of it behind bytes that show no fault yet, and nothing of what is read behind it.
  pub files_pulled : IfErr end (λ stop. StopsFilesSoon repo codes inst stop)
  pub instance_pulled : (r c : List ℕ) → AreFilesTold ws (repo.left repo.old) (codes.left codes.old) r c → IfErr end (λ stop. StopsInstanceSoon (λ i. Answer ws r c i) inst stop)
  -- What is read behind another is touched only where that was accepted: codes behind a repository, an instance behind a message that is compiled.
  pub codes_behind : (r : List ℕ) → repo.left repo.old ≡ Some r → Untouched codes ⊎ ((own : Contents) × Spells r own)
  pub instance_behind : (command : Command) → HasCommandForm ws command → (r c : List ℕ) → HasFilesTold command (repo.left repo.old) (codes.left codes.old) r c → Untouched inst ⊎ HasCompiledMessage command r c
  pub out : GoesOut held faults old new end
