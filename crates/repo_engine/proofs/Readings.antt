-- What reading a repository and its codes tells of its sources and of the bytes.
use Rattle.std.proofs.Common.{◌≡◌, inl, inr, ℕ, List, Option, Some, refl, subst, IfSome}
use Rattle.repo_objects.specs.Repository.{Contents, DictionaryEntry}
use Rattle.repo_loader.specs.declared.fault.LoadError.{LoadError}
use Rattle.repo_loader.specs.declared.fault.LoadError.TheVariants as load_error
use Rattle.repo_loader.specs.LoadErrors.{RefusesFile as LoadRefuses}
use Rattle.code_sets.specs.declared.errors.CodesError.{CodesError}
use Rattle.code_sets.specs.declared.errors.CodesError.TheVariants as codes_error
use Rattle.code_sets.specs.declared.record.CodeRecord.{CodeRecord}
use Rattle.code_sets.specs.Codes.{long, reading, joining}
use Rattle.code_sets.specs.CodesErrors.{RefusesJoin, RefusesSource}
use Rattle.repo_engine.specs.Answer.{TellsFileFault, IsCodesRefusal}
use Rattle.repo_engine.specs.inner.Arms.{IsCodesText, IsOfInput, StopsBy, load_stop, codes_stop}
use Rattle.repo_engine.specs.Sources.{Whole, Failing, stop_ended}

-- a file is refused as it is loaded
pub load_refuses : (bytes : List ℕ) (e : LoadError) → LoadRefuses bytes e → StopsBy (TellsFileFault bytes) (load_stop e)
load_refuses bytes (load_error.Refused fault) h = (fault, h, refl)
load_refuses bytes load_error.ReadFault h = tt
load_refuses bytes load_error.Memory h = tt

-- the same where the source tells its bytes
pub load_refuses_told : (left : Option (List ℕ)) (bytes : List ℕ) (e : LoadError) → left ≡ Some bytes → IfSome left (λ b. LoadRefuses b e) → StopsBy (TellsFileFault bytes) (load_stop e)
load_refuses_told left bytes e told h = load_refuses bytes e (subst (λ o. IfSome o (λ b. LoadRefuses b e)) told h)

-- how reading the file ended
pub load_failing : (e : LoadError) → stop_ended (load_stop e) ≡ Failing → e ≡ load_error.ReadFault
load_failing (load_error.Refused fault) h = absurd (cc)
load_failing load_error.ReadFault h = refl
load_failing load_error.Memory h = absurd (cc)

pub load_not_whole : (e : LoadError) → stop_ended (load_stop e) ≡ Whole → ⊥
load_not_whole (load_error.Refused fault) h = absurd (cc)
load_not_whole load_error.ReadFault h = absurd (cc)
load_not_whole load_error.Memory h = absurd (cc)

-- the same of codes
pub codes_failing : (e : CodesError) → stop_ended (codes_stop e) ≡ Failing → e ≡ codes_error.ReadFault
codes_failing (codes_error.Refused rule number) h = absurd (cc)
codes_failing codes_error.ReadFault h = refl
codes_failing codes_error.Memory h = absurd (cc)

pub codes_not_whole : (e : CodesError) → stop_ended (codes_stop e) ≡ Whole → ⊥
codes_not_whole (codes_error.Refused rule number) h = absurd (cc)
codes_not_whole codes_error.ReadFault h = absurd (cc)
codes_not_whole codes_error.Memory h = absurd (cc)

pub source_refuses : (own : Contents) (bytes : List ℕ) (e : CodesError) → RefusesSource bytes e → StopsBy (IsCodesRefusal own bytes) (codes_stop e)
source_refuses own bytes (codes_error.Refused rule number) (inl (more, is, none)) =
    (record { rule = rule; number = number }, long more (λ i. record { rule = is i; number = none i }), refl)
source_refuses own bytes (codes_error.Refused rule number) (inr (short, fault)) = (record { rule = rule; number = number }, reading short fault, refl)
source_refuses own bytes codes_error.ReadFault h = tt
source_refuses own bytes codes_error.Memory h = tt

pub source_refuses_told : (own : Contents) (left : Option (List ℕ)) (bytes : List ℕ) (e : CodesError) → left ≡ Some bytes → IfSome left (λ b. RefusesSource b e)
    → StopsBy (IsCodesRefusal own bytes) (codes_stop e)
source_refuses_told own left bytes e told h = source_refuses own bytes e (subst (λ o. IfSome o (λ b. RefusesSource b e)) told h)

-- a record that names a code set with codes of its own
pub join_refuses : (own : Contents) (bytes : List ℕ) (lists : List CodeRecord) (e : CodesError) → IsCodesText bytes lists → RefusesJoin lists own.objects e
    → StopsBy (IsCodesRefusal own bytes) (codes_stop e)
join_refuses own bytes lists (codes_error.Refused rule number) told (is, fault) = (record { rule = rule; number = number }, joining told.0 lists told.1 fault is, refl)
join_refuses own bytes lists codes_error.ReadFault told h = absurd h
join_refuses own bytes lists codes_error.Memory told h = tt

-- and it is no failed source
pub join_stops : (lists : List CodeRecord) (entries : List DictionaryEntry) (e : CodesError) → RefusesJoin lists entries e → IsOfInput (codes_stop e) × (stop_ended (codes_stop e) ≡ Failing → ⊥)
join_stops lists entries (codes_error.Refused rule number) h = (tt, λ f. absurd (cc))
join_stops lists entries codes_error.ReadFault h = absurd h
join_stops lists entries codes_error.Memory h = (tt, λ f. absurd (cc))
