-- The steps of the commands of one message.
use Rattle.std.proofs.Common.{◌≡◌, ◌≢◌, inl, inr, ℕ, Bool, List, [], Option, Some, Result, Ok, Err, codes, refl, ap, subst}
use Rattle.std.specs.Prelude.{IfErr, IfSome}
use Rattle.std.proofs.KnownBytes.{Appends-nil, Keeps-refl}
use Rattle.outside.specs.declared.errors.SinkError.{SinkError}
use Rattle.outside.specs.declared.errors.SinkError.TheVariants as sink
use Rattle.repo_objects.specs.Repository.{Contents}
use Rattle.reference_check.specs.declared.reached.ReadyError.{ReadyError}
use Rattle.reference_check.specs.declared.reached.ReadyError.TheVariants as ready
use Rattle.message_model.specs.Ready.{TellsRefused}
use Rattle.message_model.specs.Tables.{Tables}
use Rattle.message_model.specs.declared.fault.Fault.{Fault}
use Rattle.transcoder.specs.CheckErrors.{RefusesBy}
use Rattle.transcoder.specs.declared.check_error.CheckError.{CheckError}
use Rattle.transcoder.specs.declared.check_error.CheckError.TheVariants as check
use Rattle.repo_engine.specs.Answer.{FromMessage, GivesMessage, RefusesMessage, GivesTables, RefusesUpToMessage}
use Rattle.repo_engine.specs.inner.Arms.{IsOfInput, IsReadAs, unread, read, StopsBy, check_stop, end_of, ready_stop}
use Rattle.repo_engine.specs.Run.{TellsVerdict}
use Rattle.repo_engine.specs.Sources.{Use, Untouched, Ended, Whole, Failing, Refusing, IsSourceRead, AreRead, one, both, AreReadInTurn, before, behind, source_ended_of, stop_ended}
use Rattle.repo_engine.specs.Steps.{Then, refused, goes_on}
use Rattle.repo_engine.specs.Verdict.{Verdict}
use Rattle.repo_engine.specs.Verdict as verdict
use Rattle.repo_engine.specs.declared.refusal.Stop.{Stop}
use Rattle.repo_engine.specs.declared.refusal.Stop.TheVariants.{Refused, ReadFault, WriteFault, Memory}
use Rattle.repo_engine.specs.declared.refusal.Refusal.TheVariants as refusal
use Rattle.repo_engine.proofs.Steps.{from_refused, from_given}
use Rattle.repo_engine.proofs.Ends.{with_stop}

-- a message is refused as it is compiled
pub ready_refuses : (R : Contents) (m : List ℕ) (e : ReadyError) → TellsRefused R m e → StopsBy (RefusesMessage R m) (ready_stop e)
ready_refuses R m (ready.Broken number object) (rule, p, is, number_is, object_is) =
    (rule, p, is, (λ i. verdict.refused (refusal.Message (number_is i) (object_is i)) []))
ready_refuses R m ready.Memory h = tt

pub ready_input : (e : ReadyError) → IsOfInput (ready_stop e) × (stop_ended (ready_stop e) ≢ Failing)
ready_input (ready.Broken number object) = (tt, λ e. absurd (cc))
ready_input ready.Memory = (tt, λ e. absurd (cc))

pub not_failing : {T : Type 0} (r : Result T Stop) → IfErr r (λ s. IsOfInput s × (stop_ended s ≢ Failing)) → source_ended_of r ≢ Failing
not_failing (Ok x) h e = absurd (cc)
not_failing (Err s) h e = h.1 e

-- what was read to its end stays so, however the command ends but by a failed source
pub read_on : {S : Type 0} (ended : Ended) (u : Use S) → ended ≢ Failing → IsSourceRead Whole u → IsSourceRead ended u
read_on ended u other is = record { later = is.later; whole = λ e. is.whole refl; failed = λ e. absurd (other e); quiet = λ e. is.quiet (λ f. absurd (cc)) }

pub both_on : {S T : Type 0} (second : Bool) (ended : Ended) (u : Use S) (v : Use T) → ended ≢ Failing → AreRead second Whole u v → AreRead second ended u v
both_on second ended u v other (one first same none) = one (read_on ended u other first) same (λ e. none refl)
both_on second ended u v other (both codes first next) = both codes first (read_on ended v other next)

-- the count of the first source is as it was, where all of it was read
pub first_quiet : {S T : Type 0} (second : Bool) (u : Use S) (v : Use T) → AreRead second Whole u v → u.faults u.new ≡ u.faults u.old
first_quiet second u v (one first same none) = first.quiet (λ e. absurd (cc))
first_quiet second u v (both codes first next) = first.quiet (λ e. absurd (cc))

pub second_quiet : {S T : Type 0} (second : Bool) (u : Use S) (v : Use T) → AreRead second Whole u v → v.faults v.new ≡ v.faults v.old
second_quiet second u v (one first same none) = ap v.faults same
second_quiet second u v (both codes first next) = next.quiet (λ e. absurd (cc))

pub stop_not_whole : (s : Stop) → IsOfInput s → stop_ended s ≡ Whole → ⊥
stop_not_whole (Refused r) input e = absurd (cc)
stop_not_whole ReadFault input e = absurd (cc)
stop_not_whole WriteFault input e = input
stop_not_whole Memory input e = absurd (cc)

-- the third source is read behind the others, or left alone
pub third_on : {S T U : Type 0} (second third : Bool) (ended : Ended) (u : Use S) (v : Use T) (w : Use U) → AreRead second Whole u v → IsReadAs third ended w
    → AreReadInTurn second third ended u v w
third_on second third ended u v w first (unread none no_fault no_refusal same) = before (both_on second ended u v no_fault first) same (λ e. none)
third_on second third ended u v w first (read asked is) = behind asked first is

pub third_not : {S T U : Type 0} (second third : Bool) (stop : Stop) (u : Use S) (v : Use T) (w : Use U) → IsOfInput stop → AreRead second (stop_ended stop) u v → Untouched w
    → AreReadInTurn second third (stop_ended stop) u v w
third_not second third stop u v w input first same = before first same (λ e. absurd (stop_not_whole stop input e))

-- a message that is refused, and one that is compiled
pub message_refused : (codes_word id r c : List ℕ) (Next : Tables → Verdict → Type 0) (v : Verdict) → RefusesUpToMessage codes_word id r c v → FromMessage codes_word id r c Next v
message_refused codes_word id r c Next v (inl h) = from_refused codes_word r c (λ R. Then Verdict Tables (RefusesMessage R id) (GivesTables R id) Next) v h
message_refused codes_word id r c Next v (inr (R, gives, h)) = from_given codes_word r c (λ R. Then Verdict Tables (RefusesMessage R id) (GivesTables R id) Next) R v gives (refused h)

pub message_given : (codes_word id r c : List ℕ) (Next : Tables → Verdict → Type 0) (T : Tables) (v : Verdict) → GivesMessage codes_word id r c T → Next T v → FromMessage codes_word id r c Next v
message_given codes_word id r c Next T v (R, gives, tables) h = from_given codes_word r c (λ R. Then Verdict Tables (RefusesMessage R id) (GivesTables R id) Next) R v gives (goes_on T tables h)

pub no_words : (stop : Stop) → IsOfInput stop → with_stop stop ≢ with_stop (Refused refusal.Words)
no_words (Refused refusal.Words) input e = input
no_words (Refused (refusal.Repository f)) input e = absurd (cc)
no_words (Refused (refusal.Codes rule number)) input e = absurd (cc)
no_words (Refused (refusal.Message rule object)) input e = absurd (cc)
no_words (Refused (refusal.Instance f)) input e = absurd (cc)
no_words ReadFault input e = absurd (cc)
no_words WriteFault input e = absurd (cc)
no_words Memory input e = absurd (cc)

-- the end of a push is none of input
pub push_ends : (push : Result (Unit {0}) SinkError) → (source_ended_of (end_of push) ≢ Failing) × (source_ended_of (end_of push) ≢ Refusing)
push_ends (Ok done) = (λ e. absurd (cc), λ e. absurd (cc))
push_ends (Err sink.Failed) = (λ e. absurd (cc), λ e. absurd (cc))
push_ends (Err sink.Memory) = (λ e. absurd (cc), λ e. absurd (cc))

pub push_words : (push : Result (Unit {0}) SinkError) → end_of push ≢ with_stop (Refused refusal.Words)
push_words (Ok done) e = absurd (cc)
push_words (Err sink.Failed) e = absurd (cc)
push_words (Err sink.Memory) e = absurd (cc)

-- ---- an instance that is refused
pub check_input : (e : CheckError) → IsOfInput (check_stop e)
check_input (check.Refused fault) = tt
check_input check.ReadFault = tt
check_input check.Memory = tt

pub check_failing : (e : CheckError) → stop_ended (check_stop e) ≡ Failing → e ≡ check.ReadFault
check_failing (check.Refused fault) h = absurd (cc)
check_failing check.ReadFault h = refl
check_failing check.Memory h = absurd (cc)

pub check_tells : (Is : Verdict → Type 0) (HasFault : List ℕ → Fault → Type 0) (left : Option (List ℕ)) (i : List ℕ) (e : CheckError) (held : Option (List ℕ))
    → ((fault : Fault) → HasFault i fault → Is (verdict.refused (refusal.Instance fault) [])) → left ≡ Some i → IfSome left (λ bytes. RefusesBy HasFault bytes e) → TellsVerdict Is (Err (check_stop e)) held held
check_tells Is HasFault left i e held is told h = tells e (subst (λ o. IfSome o (λ bytes. RefusesBy HasFault bytes e)) told h)
  where
    tells : (e : CheckError) → RefusesBy HasFault i e → TellsVerdict Is (Err (check_stop e)) held held
    tells (check.Refused fault) h = ([], is fault h, Appends-nil held)
    tells check.ReadFault h = tt
    tells check.Memory h = inl (Keeps-refl held)
