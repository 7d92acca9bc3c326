-- What an end says of a repository, of its codes and of a message, whatever the sources behind them tell.
use Rattle.std.proofs.Common.{ℕ, List, [], Option, Result, Ok, Err}
use Rattle.std.specs.Prelude.{IfErr}
use Rattle.outside.specs.declared.errors.SinkError.{SinkError}
use Rattle.outside.specs.declared.errors.SinkError.TheVariants as sink
use Rattle.repo_objects.specs.Repository.{Contents}
use Rattle.repo_engine.specs.Answer.{RefusesMessage, TellsFileFault}
use Rattle.repo_engine.specs.Run.{End, TellsOfRepository, TellsUpToMessage}
use Rattle.repo_engine.specs.Sources.{Use}
use Rattle.repo_engine.specs.Verdict.{Verdict}
use Rattle.repo_engine.specs.inner.Arms.{IsOfInput, StopsAtCodes, StopsAtFiles, StopsAtInstance, StopsBy, end_of}
use Rattle.repo_engine.specs.declared.refusal.Stop.{Stop}
use Rattle.repo_engine.specs.declared.refusal.Stop.TheVariants.{Refused, ReadFault, WriteFault, Memory}
use Rattle.repo_engine.specs.declared.refusal.Refusal.TheVariants.{Words, Repository, Codes, Message, Instance}

-- ---- the repository

-- reading it stops
pub repository_stops : (r : List ℕ) (stop : Stop) → StopsBy (TellsFileFault r) stop → TellsOfRepository r (Err stop)
repository_stops r (Refused Words) h = tt
repository_stops r (Refused (Repository fault)) h = h
repository_stops r (Refused (Codes rule number)) h = tt
repository_stops r (Refused (Message rule object)) h = tt
repository_stops r (Refused (Instance fault)) h = tt
repository_stops r ReadFault h = tt
repository_stops r WriteFault h = tt
repository_stops r Memory h = tt

-- reading its codes stops
pub codes_stop_apart : (r : List ℕ) (c c' : Option (List ℕ)) (stop : Stop) → StopsAtCodes c c' stop → TellsOfRepository r (Err stop)
codes_stop_apart r c c' (Refused Words) h = tt
codes_stop_apart r c c' (Refused (Repository fault)) h = absurd h
codes_stop_apart r c c' (Refused (Codes rule number)) h = tt
codes_stop_apart r c c' (Refused (Message rule object)) h = tt
codes_stop_apart r c c' (Refused (Instance fault)) h = tt
codes_stop_apart r c c' ReadFault h = tt
codes_stop_apart r c c' WriteFault h = tt
codes_stop_apart r c c' Memory h = tt

-- a message is refused
pub message_stops_apart : (r : List ℕ) (R : Contents) (m : List ℕ) (stop : Stop) → StopsBy (RefusesMessage R m) stop → TellsOfRepository r (Err stop)
message_stops_apart r R m (Refused Words) h = tt
message_stops_apart r R m (Refused (Repository fault)) (rule, p, is, e) = absurd cc
message_stops_apart r R m (Refused (Codes rule number)) h = tt
message_stops_apart r R m (Refused (Message rule object)) h = tt
message_stops_apart r R m (Refused (Instance fault)) h = tt
message_stops_apart r R m ReadFault h = tt
message_stops_apart r R m WriteFault h = tt
message_stops_apart r R m Memory h = tt

-- a text is pushed
pub push_apart : (r : List ℕ) (push : Result (Unit {0}) SinkError) → TellsOfRepository r (end_of push)
push_apart r (Ok done) = tt
push_apart r (Err sink.Failed) = tt
push_apart r (Err sink.Memory) = tt

-- no more than an instance is refused
pub instance_apart : {I : Type 0} (r : List ℕ) (Answers : List ℕ → Verdict → Type 0) (inst : Use I) (end : End) → IfErr end (λ stop. StopsAtInstance Answers inst stop) → TellsOfRepository r end
instance_apart r Answers inst (Ok done) h = tt
instance_apart r Answers inst (Err (Refused Words)) h = tt
instance_apart r Answers inst (Err (Refused (Repository fault))) h = absurd h.1
instance_apart r Answers inst (Err (Refused (Codes rule number))) h = tt
instance_apart r Answers inst (Err (Refused (Message rule object))) h = tt
instance_apart r Answers inst (Err (Refused (Instance fault))) h = tt
instance_apart r Answers inst (Err ReadFault) h = tt
instance_apart r Answers inst (Err WriteFault) h = tt
instance_apart r Answers inst (Err Memory) h = tt

-- ---- up to the message

-- nothing is compiled
pub files_stop : {R C : Type 0} (Refuses : Verdict → Type 0) (Compiled : Type 0) (repo : Use R) (codes : Use C) (stop : Stop) → IsOfInput stop → StopsAtFiles repo codes stop → StopsBy Refuses stop → TellsUpToMessage Refuses Compiled (Err stop)
files_stop Refuses Compiled repo codes (Refused Words) input at h = h
files_stop Refuses Compiled repo codes (Refused (Repository fault)) input at h = h
files_stop Refuses Compiled repo codes (Refused (Codes rule number)) input at h = h
files_stop Refuses Compiled repo codes (Refused (Message rule object)) input at h = h
files_stop Refuses Compiled repo codes (Refused (Instance fault)) input at h = absurd at
files_stop Refuses Compiled repo codes ReadFault input at h = tt
files_stop Refuses Compiled repo codes WriteFault input at h = absurd input
files_stop Refuses Compiled repo codes Memory input at h = tt

-- the message is
pub files_go_on : {I : Type 0} (Refuses : Verdict → Type 0) (Compiled : Type 0) (Answers : List ℕ → Verdict → Type 0) (inst : Use I) (end : End) → Compiled → IfErr end (λ stop. StopsAtInstance Answers inst stop) → TellsUpToMessage Refuses Compiled end
files_go_on Refuses Compiled Answers inst (Ok done) compiled h = compiled
files_go_on Refuses Compiled Answers inst (Err (Refused Words)) compiled h = absurd h.1
files_go_on Refuses Compiled Answers inst (Err (Refused (Repository fault))) compiled h = absurd h.1
files_go_on Refuses Compiled Answers inst (Err (Refused (Codes rule number))) compiled h = absurd h.1
files_go_on Refuses Compiled Answers inst (Err (Refused (Message rule object))) compiled h = absurd h.1
files_go_on Refuses Compiled Answers inst (Err (Refused (Instance fault))) compiled h = compiled
files_go_on Refuses Compiled Answers inst (Err ReadFault) compiled h = tt
files_go_on Refuses Compiled Answers inst (Err WriteFault) compiled h = compiled
files_go_on Refuses Compiled Answers inst (Err Memory) compiled h = tt
