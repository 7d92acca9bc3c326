use Rattle.std.proofs.Common.{rules, ◌≡◌, ◌≤◌, inl, length, subst, IfSome, ap}
use Rattle.code_sets.specs.Codes.{ReadsCodes, codes_limit}
use Rattle.code_sets.specs.declared.errors.CodesError.TheVariants as codes_error
use Rattle.repo_engine.proofs.Readings.{source_refuses_told, codes_failing, codes_not_whole}
use Rattle.repo_engine.proofs.Pulls.{codes_stops}
use Rattle.repo_engine.proofs.Steps.{same_error}
use Rattle.repo_engine.specs.inner.Arms.{codes_stop}
use Rattle.repo_engine.specs.Sources.{stop_ended}
use Rattle.repo_engine.proofs.repository.load_codes.Goals as goal

pub returns-in-Ok-clause-source : goal.returns-in-Ok-clause-source
returns-in-Ok-clause-source g c = record {
  later = c.pull_codes.ensures.later;
  whole = λ _. c.in-Ok.ensures.whole;
  failed = λ e. absurd (cc);
  quiet = λ _. c.pull_codes.ensures.same (λ e. absurd (cc));
}

pub returns-in-Ok-clause-gives : goal.returns-in-Ok-clause-gives
returns-in-Ok-clause-gives g c bytes told = (
  subst (λ o. IfSome o (λ b. length b ≤ codes_limit)) told c.in-Ok.ensures.short,
  subst (λ o. IfSome o (λ b. ReadsCodes b c.in-Ok.lists)) told c.in-Ok.ensures.ok,
)

pub returns-in-Err-clause-refuses : goal.returns-in-Err-clause-refuses
returns-in-Err-clause-refuses g c bytes told own = rw c.stop_of_codes.ensures (source_refuses_told own _ bytes _ told c.in-Err.ensures.err)

pub returns-in-Err-clause-source : goal.returns-in-Err-clause-source
returns-in-Err-clause-source g c = rw c.stop_of_codes.ensures (record {
  later = c.pull_codes.ensures.later;
  whole = λ e. absurd (codes_not_whole _ e);
  failed = λ e. (let is : c.in-Err.error ≡ codes_error.ReadFault = codes_failing _ e in c.pull_codes.ensures.fault (search rules));
  quiet = λ other. c.pull_codes.ensures.same (λ e. other (let is : c.in-Err.error ≡ codes_error.ReadFault = same_error _ _ _ c.in-Err.is e in ap (λ e. stop_ended (codes_stop e)) is));
})

pub returns-in-Err-clause-pulled : goal.returns-in-Err-clause-pulled
returns-in-Err-clause-pulled g c = rw c.stop_of_codes.ensures (codes_stops _ _ _ c.in-Err.ensures.pulled)

pub returns-in-Ok-clause-read : goal.returns-in-Ok-clause-read
returns-in-Ok-clause-read g c = inl (c.in-Ok.ensures.whole, c.in-Ok.ensures.short)
