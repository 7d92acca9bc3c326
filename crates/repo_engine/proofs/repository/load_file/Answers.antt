use Rattle.std.proofs.Common.{rules, ◌≡◌, subst, IfSome, ap}
use Rattle.repo_loader.specs.Loaded.{Spells}
use Rattle.repo_loader.specs.declared.fault.LoadError.TheVariants as load_error
use Rattle.repo_engine.proofs.Readings.{load_refuses_told, load_failing, load_not_whole}
use Rattle.repo_engine.proofs.Pulls.{load_stops}
use Rattle.repo_engine.proofs.Steps.{same_error}
use Rattle.repo_engine.specs.inner.Arms.{load_stop}
use Rattle.repo_engine.specs.Sources.{stop_ended}
use Rattle.repo_engine.proofs.repository.load_file.Goals as goal

pub returns-in-Ok-clause-source : goal.returns-in-Ok-clause-source
returns-in-Ok-clause-source g c = record {
  later = c.load.ensures.later;
  whole = λ _. c.in-Ok.ensures.whole;
  failed = λ e. absurd (cc);
  quiet = λ _. c.load.ensures.same (λ e. absurd (cc));
}

pub returns-in-Ok-clause-gives : goal.returns-in-Ok-clause-gives
returns-in-Ok-clause-gives g c r told = subst (λ o. IfSome o (λ bytes. Spells bytes c.in-Ok.own)) told c.in-Ok.ensures.ok

pub returns-in-Err-clause-refuses : goal.returns-in-Err-clause-refuses
returns-in-Err-clause-refuses g c r told = rw c.stop_of_load.ensures (load_refuses_told _ r _ told c.in-Err.ensures.err)

pub returns-in-Err-clause-source : goal.returns-in-Err-clause-source
returns-in-Err-clause-source g c = rw c.stop_of_load.ensures (record {
  later = c.load.ensures.later;
  whole = λ e. absurd (load_not_whole _ e);
  failed = λ e. (let is : c.in-Err.error ≡ load_error.ReadFault = load_failing _ e in c.load.ensures.fault (search rules));
  quiet = λ other. c.load.ensures.same (λ e. other (let is : c.in-Err.error ≡ load_error.ReadFault = same_error _ _ _ c.in-Err.is e in ap (λ e. stop_ended (load_stop e)) is));
})

pub returns-in-Err-clause-pulled : goal.returns-in-Err-clause-pulled
returns-in-Err-clause-pulled g c = rw c.stop_of_load.ensures (load_stops _ _ _ c.in-Err.ensures.pulled)
