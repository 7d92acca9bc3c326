-- How a transcoding ends a command.
use Rattle.std.proofs.Common.{◌≡◌, ◌≢◌, ◌≤◌, ℕ, List, [], Option, Some, Result, Ok, Err, refl, sym, ap, ◌∙◌, subst}
use Rattle.std.specs.Prelude.{IfSome}
use Rattle.std.specs.Io.KnownBytes.{IsAtEnd}
use Rattle.outside.specs.Source.{Rose}
use Rattle.outside.specs.Pushes.{as_push}
use Rattle.outside.specs.declared.errors.WriteError.{WriteError}
use Rattle.outside.specs.declared.errors.WriteError.TheVariants as written
use Rattle.message_model.specs.declared.fault.Fault.{Fault}
use Rattle.transcoder.specs.declared.check_error.CheckError.{CheckError}
use Rattle.transcoder.specs.declared.check_error.CheckError.TheVariants as check
use Rattle.transcoder.specs.declared.trans_error.TransError.{TransError}
use Rattle.transcoder.specs.declared.trans_error.TransError.TheVariants as trans
use Rattle.transcoder.specs.Transcoding.{IsTranscoded, unread, pushed}
use Rattle.transcoder.specs.TransErrors.{trans_error, written_end}
use Rattle.repo_engine.specs.inner.Arms.{check_stop, end_of, trans_end}
use Rattle.repo_engine.specs.Run.{End, GoesOut, TellsVerdict}
use Rattle.repo_engine.specs.Sources.{Use, IsSourceRead, Whole, Failing, source_ended_of}
use Rattle.repo_engine.specs.Verdict.{Verdict, accepted}
use Rattle.repo_engine.specs.Verdict as verdict
use Rattle.repo_engine.specs.declared.refusal.Stop.TheVariants.{Refused}
use Rattle.repo_engine.specs.declared.refusal.Refusal.TheVariants as refusal
use Rattle.repo_engine.proofs.Ends.{tells_pushed, goes_pushed, goes_nowhere}
use Rattle.repo_engine.proofs.Messages.{check_tells, check_input, no_words, push_words}

-- an error of the reading ends as it does without a writer
unread_end : (e : CheckError) → trans_end (Err (trans_error e)) ≡ Err (check_stop e)
unread_end (check.Refused fault) = refl
unread_end check.ReadFault = refl
unread_end check.Memory = refl

-- a text that was pushed ends as its push
pushed_end : (push : Result (Unit {0}) WriteError) → trans_end (written_end push) ≡ end_of (as_push push)
pushed_end (Ok done) = refl
pushed_end (Err written.WriteFault) = refl
pushed_end (Err written.Memory) = refl

module _ {O : Type 0} (held : O → Option (List ℕ)) (faults room : O → ℕ) (IsText : List ℕ → List ℕ → Type 0) (HasFault : List ℕ → Fault → Type 0) (left left' : Option (List ℕ)) (old new : O)
    (result : Result (Unit {0}) TransError) where
  pub tells_transcoded : (Is : Verdict → Type 0) (i : List ℕ) → ((fault : Fault) → HasFault i fault → Is (verdict.refused (refusal.Instance fault) [])) → ((text : List ℕ) → IsText i text → Is (accepted text))
      → left ≡ Some i → IsTranscoded held faults room IsText HasFault left left' old new result → TellsVerdict Is (trans_end result) (held old) (held new)
  tells_transcoded Is i refuses gives told (unread e is same h) =
      subst (λ (r : Result (Unit {0}) TransError). TellsVerdict Is (trans_end r) (held old) (held new)) (sym is)
      (subst (λ (r : End). TellsVerdict Is r (held old) (held new)) (sym (unread_end e))
      (subst (λ (o : O). TellsVerdict Is (Err (check_stop e)) (held old) (held o)) (sym same) (check_tells Is HasFault left i e (held old) refuses told h)))
  tells_transcoded Is i refuses gives told (pushed text push is h last p) =
      subst (λ (r : Result (Unit {0}) TransError). TellsVerdict Is (trans_end r) (held old) (held new)) (sym is)
      (subst (λ (r : End). TellsVerdict Is r (held old) (held new)) (sym (pushed_end push))
      (tells_pushed held faults room old new Is text (as_push push) (gives text (subst (λ (o : Option (List ℕ)). IfSome o (λ bytes. IsText bytes text)) told h)) p))

  pub goes_transcoded : IsTranscoded held faults room IsText HasFault left left' old new result → GoesOut held faults old new (trans_end result)
  goes_transcoded (unread e is same h) =
      subst (λ (r : Result (Unit {0}) TransError). GoesOut held faults old new (trans_end r)) (sym is)
      (subst (λ (r : End). GoesOut held faults old new r) (sym (unread_end e))
      (subst (λ (o : O). GoesOut held faults old o (Err (check_stop e))) (sym same) (goes_nowhere held faults old (check_stop e) (check_input e))))
  goes_transcoded (pushed text push is h last p) =
      subst (λ (r : Result (Unit {0}) TransError). GoesOut held faults old new (trans_end r)) (sym is)
      (subst (λ (r : End). GoesOut held faults old new r) (sym (pushed_end push)) (goes_pushed held faults room old new text (as_push push) p))

  pub words_transcoded : IsTranscoded held faults room IsText HasFault left left' old new result → trans_end result ≢ Err (Refused refusal.Words)
  words_transcoded (unread e is same h) =
      subst (λ (r : Result (Unit {0}) TransError). trans_end r ≢ Err (Refused refusal.Words)) (sym is)
      (subst (λ (r : End). r ≢ Err (Refused refusal.Words)) (sym (unread_end e)) (no_words (check_stop e) (check_input e)))
  words_transcoded (pushed text push is h last p) =
      subst (λ (r : Result (Unit {0}) TransError). trans_end r ≢ Err (Refused refusal.Words)) (sym is)
      (subst (λ (r : End). r ≢ Err (Refused refusal.Words)) (sym (pushed_end push)) (push_words (as_push push)))

  -- the source is at its end where the command is done
  whole_transcoded : IsTranscoded held faults room IsText HasFault left left' old new result → source_ended_of (trans_end result) ≡ Whole → IsAtEnd left'
  whole_transcoded (unread e is same h) done = absurd (not_whole e (sym (ap (λ (r : Result (Unit {0}) TransError). source_ended_of (trans_end r)) is) ∙ done))
    where
      not_whole : (e : CheckError) → source_ended_of (trans_end (Err (trans_error e))) ≡ Whole → ⊥
      not_whole (check.Refused fault) k = absurd (cc)
      not_whole check.ReadFault k = absurd (cc)
      not_whole check.Memory k = absurd (cc)
  whole_transcoded (pushed text push is h last p) done = last

  failing_transcoded : (r : Result (Unit {0}) TransError) → source_ended_of (trans_end r) ≡ Failing → r ≡ Err trans.ReadFault
  failing_transcoded (Ok done) e = absurd (cc)
  failing_transcoded (Err (trans.Refused fault)) e = absurd (cc)
  failing_transcoded (Err trans.ReadFault) e = refl
  failing_transcoded (Err trans.WriteFault) e = absurd (cc)
  failing_transcoded (Err trans.Memory) e = absurd (cc)

  pub read_transcoded : {S : Type 0} (u : Use S) → u.left u.new ≡ left' → u.faults u.old ≤ u.faults u.new → (result ≡ Err trans.ReadFault → Rose (u.faults u.old) (u.faults u.new))
      → ((result ≡ Err trans.ReadFault → ⊥) → u.faults u.new ≡ u.faults u.old) → IsTranscoded held faults room IsText HasFault left left' old new result → IsSourceRead (source_ended_of (trans_end result)) u
  read_transcoded u at later rose same t = record {
    later = later;
    whole = λ e. subst IsAtEnd (sym at) (whole_transcoded t e);
    failed = λ e. rose (failing_transcoded result e);
    quiet = λ other. same (λ is. other (ap (λ (r : Result (Unit {0}) TransError). source_ended_of (trans_end r)) is));
  }
