-- How far the sources are pulled where a command stops.
use Rattle.std.proofs.Common.{◌≡◌, ◌≢◌, inl, inr, ℕ, List, Option, Result, Ok, Err, refl, sym, ap, subst, arith}
use Rattle.std.specs.Prelude.{IfErr}
use Rattle.lexical_core.specs.declared.rule.Rule.{Rule}
use Rattle.lexical_core.specs.declared.rule.Rule.TheVariants.{Truncated, DerTruncated}
use Rattle.outside.specs.Pulls.{StopsSoon}
use Rattle.outside.specs.declared.errors.SinkError.{SinkError}
use Rattle.outside.specs.declared.errors.SinkError.TheVariants as sink
use Rattle.data_types.specs.Value.{Value}
use Rattle.repo_loader.specs.LoadErrors.{PullsForFault as LoadPulls, ShowsNoLoadFault}
use Rattle.repo_loader.specs.declared.fault.LoadError.{LoadError}
use Rattle.repo_loader.specs.declared.fault.LoadError.TheVariants as load_error
use Rattle.code_sets.specs.CodesErrors.{AreCodesPulled, AreFewBytes, PullsForRefusal, RefusesJoin}
use Rattle.code_sets.specs.declared.errors.CodesError.{CodesError}
use Rattle.code_sets.specs.declared.errors.CodesError.TheVariants as codes_error
use Rattle.code_sets.specs.declared.record.CodeRecord.{CodeRecord}
use Rattle.repo_objects.specs.Repository.{Contents, DictionaryEntry}
use Rattle.message_model.specs.Tables.{Tables}
use Rattle.message_model.specs.declared.fault.Fault.{Fault}
use Rattle.transcoder.specs.Checked.{HasXmlFault, HasDerFault}
use Rattle.transcoder.specs.Pulls.{MayBeFollowed, PullsToFault, PullsToTransFault}
use Rattle.transcoder.specs.declared.check_error.CheckError.{CheckError}
use Rattle.transcoder.specs.declared.check_error.CheckError.TheVariants as check
use Rattle.transcoder.specs.declared.trans_error.TransError.{TransError}
use Rattle.transcoder.specs.declared.trans_error.TransError.TheVariants as trans
use Rattle.repo_engine.specs.Answer.{FromXml, FromDer, IsFine, GivesXml, GivesDer, RefusesMessage}
use Rattle.repo_engine.specs.Pulls.{HadShownNone, StopsFilesSoon, StopsInstanceSoon, HasNoFaultYet, ShowsNoFault}
use Rattle.repo_engine.specs.Run.{End}
use Rattle.repo_engine.specs.Sources.{Use, Untouched, Failing, Refusing, source_ended_of, stop_ended}
use Rattle.repo_engine.specs.Steps.{refused, goes_on}
use Rattle.repo_engine.specs.Verdict.{Verdict}
use Rattle.repo_engine.specs.declared.refusal.Refusal.TheVariants.{Words, Repository, Codes, Message, Instance}
use Rattle.repo_engine.specs.declared.refusal.Stop.{Stop}
use Rattle.repo_engine.specs.declared.refusal.Stop.TheVariants.{Refused, ReadFault, WriteFault, Memory}
use Rattle.repo_engine.specs.inner.Arms.{IsOfInput, StopsAtRepository, StopsAtCodes, StopsAtFiles, StopsAtInstance, StopsBy, load_stop, codes_stop, check_stop, trans_end, end_of}

-- a source whose count of faults did not rise
not_failed : {S : Type 0} (u : Use S) → u.faults u.new ≡ u.faults u.old → (ShowsNone : List ℕ → Type 0) → HadShownNone ShowsNone u
not_failed u quiet ShowsNone rose = absurd (omega (arith, quiet, rose))

-- ---- the repository and its codes

pub load_stops : (repo repo' : Option (List ℕ)) (e : LoadError) → LoadPulls repo repo' e → StopsAtRepository repo repo' (load_stop e)
load_stops repo repo' (load_error.Refused fault) p = p
load_stops repo repo' load_error.ReadFault p = p
load_stops repo repo' load_error.Memory p = tt

pub codes_stops : (codes codes' : Option (List ℕ)) (e : CodesError) → PullsForRefusal codes codes' e → StopsAtCodes codes codes' (codes_stop e)
codes_stops codes codes' (codes_error.Refused rule number) p = p
codes_stops codes codes' codes_error.ReadFault p = p
codes_stops codes codes' codes_error.Memory p = tt

-- codes that were read and are refused behind that
pub read_codes_stop : (codes codes' : Option (List ℕ)) → AreCodesPulled codes codes' → (lists : List CodeRecord) (entries : List DictionaryEntry) (e : CodesError) → RefusesJoin lists entries e → StopsAtCodes codes codes' (codes_stop e)
read_codes_stop codes codes' p lists entries (codes_error.Refused rule number) h = p
read_codes_stop codes codes' p lists entries codes_error.ReadFault h = absurd h
read_codes_stop codes codes' p lists entries codes_error.Memory h = tt

module _ {R C : Type 0} (repo : Use R) (codes : Use C) where
  -- the repository stops it, before the codes are touched
  pub stops_at_repository : Untouched codes → (stop : Stop) → StopsAtRepository (repo.left repo.old) (repo.left repo.new) stop → StopsAtFiles repo codes stop
  stops_at_repository same (Refused Words) p = absurd p
  stops_at_repository same (Refused (Repository fault)) p = (p, same)
  stops_at_repository same (Refused (Codes rule number)) p = absurd p
  stops_at_repository same (Refused (Message rule object)) p = absurd p
  stops_at_repository same (Refused (Instance fault)) p = absurd p
  stops_at_repository same ReadFault p = (λ rose. p, not_failed codes (ap codes.faults same) AreFewBytes)
  stops_at_repository same WriteFault p = tt
  stops_at_repository same Memory p = tt

  pub stops_at_codes : repo.faults repo.new ≡ repo.faults repo.old → (stop : Stop) → StopsAtCodes (codes.left codes.old) (codes.left codes.new) stop → StopsAtFiles repo codes stop
  stops_at_codes quiet (Refused Words) p = absurd p
  stops_at_codes quiet (Refused (Repository fault)) p = absurd p
  stops_at_codes quiet (Refused (Codes rule number)) p = p
  stops_at_codes quiet (Refused (Message rule object)) p = absurd p
  stops_at_codes quiet (Refused (Instance fault)) p = absurd p
  stops_at_codes quiet ReadFault p = (not_failed repo quiet ShowsNoLoadFault, λ rose. p)
  stops_at_codes quiet WriteFault p = tt
  stops_at_codes quiet Memory p = tt

  -- the message does
  pub stops_at_message : (contents : Contents) (id : List ℕ) (stop : Stop) → StopsBy (RefusesMessage contents id) stop → IsOfInput stop × (stop_ended stop ≢ Failing) → StopsAtFiles repo codes stop
  stops_at_message contents id (Refused Words) h other = tt
  stops_at_message contents id (Refused (Repository fault)) (rule, place, broken, is) other = absurd (cc)
  stops_at_message contents id (Refused (Codes rule number)) (broken_rule, place, broken, is) other = absurd (cc)
  stops_at_message contents id (Refused (Message rule object)) h other = tt
  stops_at_message contents id (Refused (Instance fault)) (rule, place, broken, is) other = absurd (cc)
  stops_at_message contents id ReadFault h other = absurd (other.1 refl)
  stops_at_message contents id WriteFault h other = tt
  stops_at_message contents id Memory h other = tt

  pub push_stops : (push : Result (Unit {0}) SinkError) → IfErr (end_of push) (λ stop. StopsAtFiles repo codes stop)
  push_stops (Ok done) = tt
  push_stops (Err sink.Failed) = tt
  push_stops (Err sink.Memory) = tt

  -- the instance was not touched
  pub files_soon : {I : Type 0} (inst : Use I) → Untouched inst → (stop : Stop) → StopsAtFiles repo codes stop → StopsFilesSoon repo codes inst stop
  files_soon inst same (Refused Words) p = tt
  files_soon inst same (Refused (Repository fault)) p = (p.0, p.1, same)
  files_soon inst same (Refused (Codes rule number)) p = (p, same)
  files_soon inst same (Refused (Message rule object)) p = same
  files_soon inst same (Refused (Instance fault)) p = tt
  files_soon inst same ReadFault p = p
  files_soon inst same WriteFault p = tt
  files_soon inst same Memory p = tt

  pub no_instance : {I : Type 0} (Answers : List ℕ → Verdict → Type 0) (inst : Use I) → Untouched inst → (stop : Stop) → StopsAtFiles repo codes stop → StopsInstanceSoon Answers inst stop
  no_instance Answers inst same (Refused Words) p = tt
  no_instance Answers inst same (Refused (Repository fault)) p = tt
  no_instance Answers inst same (Refused (Codes rule number)) p = tt
  no_instance Answers inst same (Refused (Message rule object)) p = tt
  no_instance Answers inst same (Refused (Instance fault)) p = absurd p
  no_instance Answers inst same ReadFault p = not_failed inst (ap inst.faults same) (HasNoFaultYet Answers)
  no_instance Answers inst same WriteFault p = tt
  no_instance Answers inst same Memory p = tt

-- ---- an instance

module _ {I : Type 0} (Answers : List ℕ → Verdict → Type 0) (inst : Use I) where
  -- no files are refused where a command of a compiled message stops
  pub no_files : {R C : Type 0} (repo : Use R) (codes : Use C) → repo.faults repo.new ≡ repo.faults repo.old → codes.faults codes.new ≡ codes.faults codes.old → (stop : Stop) → StopsAtInstance Answers inst stop → StopsFilesSoon repo codes inst stop
  no_files repo codes quiet quiet_codes (Refused Words) p = tt
  no_files repo codes quiet quiet_codes (Refused (Repository fault)) p = absurd p.1
  no_files repo codes quiet quiet_codes (Refused (Codes rule number)) p = absurd p.1
  no_files repo codes quiet quiet_codes (Refused (Message rule object)) p = absurd p.1
  no_files repo codes quiet quiet_codes (Refused (Instance fault)) p = tt
  no_files repo codes quiet quiet_codes ReadFault p = (not_failed repo quiet ShowsNoLoadFault, not_failed codes quiet_codes AreFewBytes)
  no_files repo codes quiet quiet_codes WriteFault p = tt
  no_files repo codes quiet quiet_codes Memory p = tt

  instance_soon : (Others : List ℕ → Verdict → Type 0) → ((i : List ℕ) (v : Verdict) → Others i v → Answers i v) → StopsSoon (HasNoFaultYet Answers) (inst.left inst.old) (inst.left inst.new) → StopsSoon (HasNoFaultYet Others) (inst.left inst.old) (inst.left inst.new)
  instance_soon Others from p = record { before = p.before; last = p.last; pulled = p.pulled; short = p.short; shows_none = λ v o. p.shows_none v (from p.before v o) }

  pub other_answers : (Others : List ℕ → Verdict → Type 0) → ((i : List ℕ) (v : Verdict) → Others i v → Answers i v) → (stop : Stop) → StopsInstanceSoon Answers inst stop → StopsInstanceSoon Others inst stop
  other_answers Others from (Refused Words) p = tt
  other_answers Others from (Refused (Repository fault)) p = tt
  other_answers Others from (Refused (Codes rule number)) p = tt
  other_answers Others from (Refused (Message rule object)) p = tt
  other_answers Others from (Refused (Instance fault)) p = instance_soon Others from p
  other_answers Others from ReadFault p = λ rose. (let t = p rose in (t.0, t.1, λ v o. t.2 v (from t.0 v o)))
  other_answers Others from WriteFault p = tt
  other_answers Others from Memory p = tt

  pub stops_soon : (Others : List ℕ → Verdict → Type 0) → ((i : List ℕ) (v : Verdict) → Others i v → Answers i v) → (stop : Stop) → StopsAtInstance Answers inst stop → StopsInstanceSoon Others inst stop
  stops_soon Others from stop p = other_answers Others from stop p.0

  -- a command that refuses nothing
  pub unrefused : (end : End) → source_ended_of end ≢ Failing → source_ended_of end ≢ Refusing → IfErr end (λ stop. StopsAtInstance Answers inst stop)
  unrefused (Ok done) sound other = tt
  unrefused (Err (Refused refusal)) sound other = absurd (other refl)
  unrefused (Err ReadFault) sound other = absurd (sound refl)
  unrefused (Err WriteFault) sound other = (tt, tt)
  unrefused (Err Memory) sound other = (tt, tt)

  pub push_ends_so : (push : Result (Unit {0}) SinkError) → IfErr (end_of push) (λ stop. StopsAtInstance Answers inst stop)
  push_ends_so (Ok done) = tt
  push_ends_so (Err sink.Failed) = (tt, tt)
  push_ends_so (Err sink.Memory) = (tt, tt)

  module _ (HasFault : List ℕ → Fault → Type 0) (cut : Rule) (goes : (i : List ℕ) (v : Verdict) → Answers i v → ((fault : Fault) → HasFault i fault → fault.rule ≡ cut) → ShowsNoFault v) where
    shows_no_fault : StopsSoon (MayBeFollowed HasFault cut) (inst.left inst.old) (inst.left inst.new) → StopsSoon (HasNoFaultYet Answers) (inst.left inst.old) (inst.left inst.new)
    shows_no_fault p = record { before = p.before; last = p.last; pulled = p.pulled; short = p.short; shows_none = λ v a. goes p.before v a p.shows_none.1 }

    pub check_stops : (e : CheckError) → PullsToFault HasFault cut (inst.left inst.old) (inst.left inst.new) e → StopsAtInstance Answers inst (check_stop e)
    check_stops (check.Refused fault) p = (shows_no_fault p, tt)
    check_stops check.ReadFault p = (λ rose. (p.0, p.1, λ v a. goes p.0 v a p.2.1), tt)
    check_stops check.Memory p = (tt, tt)

    pub trans_stops : (r : Result (Unit {0}) TransError) → IfErr r (λ e. PullsToTransFault HasFault cut (inst.left inst.old) (inst.left inst.new) e) → IfErr (trans_end r) (λ stop. StopsAtInstance Answers inst stop)
    trans_stops (Ok done) p = tt
    trans_stops (Err (trans.Refused fault)) p = (shows_no_fault p, tt)
    trans_stops (Err trans.ReadFault) p = (λ rose. (p.0, p.1, λ v a. goes p.0 v a p.2.1), tt)
    trans_stops (Err trans.WriteFault) p = (tt, tt)
    trans_stops (Err trans.Memory) p = (tt, tt)

-- ---- bytes that have no fault but that they end too early

pub xml_goes : (T : Tables) (Next : Value → Verdict → Type 0) → ((value : Value) (v : Verdict) → Next value v → ShowsNoFault v) → (i : List ℕ) (v : Verdict) → FromXml T i Next v → ((fault : Fault) → HasXmlFault T i fault → fault.rule ≡ Truncated) → ShowsNoFault v
xml_goes T Next next i v (refused (fault, h, is)) only = subst ShowsNoFault (sym is) (inl (only fault h))
xml_goes T Next next i v (goes_on value gives is) only = next value v is

pub der_goes : (T : Tables) (Next : Value → Verdict → Type 0) → ((value : Value) (v : Verdict) → Next value v → ShowsNoFault v) → (i : List ℕ) (v : Verdict) → FromDer T i Next v → ((fault : Fault) → HasDerFault T i fault → fault.rule ≡ DerTruncated) → ShowsNoFault v
der_goes T Next next i v (refused (fault, h, is)) only = subst ShowsNoFault (sym is) (inr (only fault h))
der_goes T Next next i v (goes_on value gives is) only = next value v is

pub fine_goes : (value : Value) (v : Verdict) → IsFine value v → ShowsNoFault v
fine_goes value v is = subst ShowsNoFault (sym is) tt

pub xml_given_goes : (T : Tables) (value : Value) (v : Verdict) → GivesXml T value v → ShowsNoFault v
xml_given_goes T value v (text, canon, is) = subst ShowsNoFault (sym is) tt

pub der_given_goes : (T : Tables) (value : Value) (v : Verdict) → GivesDer T value v → ShowsNoFault v
der_given_goes T value v is = subst ShowsNoFault (sym is) tt
