use Rattle.std.proofs.Common.{rules, ◌≡◌, refl, subst, IfSome, codes, ap}
use Rattle.lexical_core.specs.declared.rule.Rule.TheVariants.{DerTruncated}
use Rattle.transcoder.specs.Checked.{IsDerAccepted, HasDerFault}
use Rattle.transcoder.specs.declared.check_error.CheckError.TheVariants as check
use Rattle.repo_engine.proofs.Ends.{tells_pushed, goes_nowhere}
use Rattle.repo_engine.proofs.Messages.{read_on, push_ends, push_words, check_failing, check_input, check_tells, no_words, stop_not_whole}
use Rattle.repo_engine.specs.Answer.{FromDer, IsFine}
use Rattle.repo_engine.specs.Steps.{refused, goes_on}
use Rattle.repo_engine.specs.inner.Arms.{end_of, check_stop}
use Rattle.repo_engine.specs.Sources.{of_source, source_ended_of, stop_ended}
use Rattle.repo_engine.proofs.Pulls.{push_ends_so, check_stops, der_goes, fine_goes}
use Rattle.repo_engine.proofs.Steps.{same_error}
use Rattle.repo_engine.proofs.check.check_in_der.Goals as goal

pub returns-in-Ok-clause-no_words : goal.returns-in-Ok-clause-no_words
returns-in-Ok-clause-no_words g c = rw c.ended.ensures (push_words c.push_bytes.result)

pub returns-in-Ok-clause-source : goal.returns-in-Ok-clause-source
returns-in-Ok-clause-source g c = rw c.ended.ensures (read_on (source_ended_of (end_of c.push_bytes.result)) _ (push_ends c.push_bytes.result).0 (record {
  later = c.check_der.ensures.later;
  whole = λ _. c.in-Ok.ensures.whole;
  failed = λ e. absurd (cc);
  quiet = λ _. c.check_der.ensures.same (λ e. absurd (cc));
}))

pub returns-in-Ok-clause-verdict : goal.returns-in-Ok-clause-verdict
returns-in-Ok-clause-verdict g c i told = rw c.ended.ensures
    (tells_pushed g.O.Sink.held g.O.Sink.faults g.O.Sink.room _ _ (FromDer c.args.model.now i IsFine) (codes "accepted\n") c.push_bytes.result
    (let a : IsDerAccepted c.args.model.now i = subst (λ o. IfSome o (λ bytes. IsDerAccepted c.args.model.now bytes)) told c.in-Ok.ensures.ok in goes_on a.0.0 (a.0.1, a.1) refl) c.push_bytes.ensures.push)

pub returns-in-Err-clause-no_words : goal.returns-in-Err-clause-no_words
returns-in-Err-clause-no_words g c = rw c.stop_of_check.ensures (no_words _ (check_input _))

pub returns-in-Err-clause-source : goal.returns-in-Err-clause-source
returns-in-Err-clause-source g c = rw c.stop_of_check.ensures (record {
  later = c.check_der.ensures.later;
  whole = λ e. absurd (stop_not_whole _ (check_input _) e);
  failed = λ e. (let is : c.in-Err.error ≡ check.ReadFault = check_failing _ e in c.check_der.ensures.fault (search rules));
  quiet = λ other. c.check_der.ensures.same (λ e. other (let is : c.in-Err.error ≡ check.ReadFault = same_error _ _ _ c.in-Err.is e in ap (λ e. stop_ended (check_stop e)) is));
})

pub returns-in-Err-clause-verdict : goal.returns-in-Err-clause-verdict
returns-in-Err-clause-verdict g c i told = rw c.stop_of_check.ensures (check_tells (FromDer c.args.model.now i IsFine) (HasDerFault c.args.model.now) _ i _ _ (λ fault h. refused (fault, h, refl)) told c.in-Err.ensures.refused)

pub returns-in-Err-clause-goes_out : goal.returns-in-Err-clause-goes_out
returns-in-Err-clause-goes_out g c = rw c.stop_of_check.ensures (goes_nowhere g.O.Sink.held g.O.Sink.faults _ _ (check_input _))

pub returns-in-Ok-clause-pulled : goal.returns-in-Ok-clause-pulled
returns-in-Ok-clause-pulled g c = rw c.ended.ensures (push_ends_so (λ i. FromDer c.args.model.now i IsFine) (of_source g.I.Source.left g.I.Source.faults c.args.inst.now c.check_der.new.source) c.push_bytes.result)

pub returns-in-Err-clause-pulled : goal.returns-in-Err-clause-pulled
returns-in-Err-clause-pulled g c = rw c.stop_of_check.ensures (check_stops (λ i. FromDer c.args.model.now i IsFine) (of_source g.I.Source.left g.I.Source.faults c.args.inst.now c.check_der.new.source) (HasDerFault c.args.model.now) DerTruncated (der_goes c.args.model.now IsFine fine_goes) _ c.in-Err.ensures.pulled)
