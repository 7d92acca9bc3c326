use Rattle.std.proofs.Common.{inl, inr, refl}
use Rattle.repo_engine.specs.Answer.{RefusesCodes, RefusesRepository}
use Rattle.repo_engine.specs.Sources.{of_source}
use Rattle.repo_engine.proofs.FileVerdicts.{codes_stop_apart, repository_stops}
use Rattle.repo_engine.proofs.Pulls.{stops_at_repository, stops_at_codes}
use Rattle.repo_engine.proofs.Steps.{if_ok, if_err, stops_by}
use Rattle.repo_engine.proofs.repository.read_repository.Goals as goal

pub returns-in-Ok-clause-gives : goal.returns-in-Ok-clause-gives
returns-in-Ok-clause-gives g c r bytes left =
    if_ok _ _ c.with_codes.result (λ joined h. (c.in-Ok.own, c.in-Ok.ensures.gives r left.repository, h)) (c.with_codes.ensures.gives bytes left.codes)

pub returns-in-Ok-clause-refuses : goal.returns-in-Ok-clause-refuses
returns-in-Ok-clause-refuses g c r bytes left =
    if_err _ _ c.with_codes.result
    (λ stop. stops_by (RefusesCodes c.args.codes_word.now c.in-Ok.own bytes) (RefusesRepository c.args.codes_word.now r bytes) stop (λ v h. inr (c.in-Ok.own, c.in-Ok.ensures.gives r left.repository, h)))
    (c.with_codes.ensures.refuses bytes left.codes)

pub returns-in-Ok-clause-pulled : goal.returns-in-Ok-clause-pulled
returns-in-Ok-clause-pulled g c = if_err _ _ c.with_codes.result (stops_at_codes (of_source g.R.Source.left g.R.Source.faults c.args.repo.now c.load_file.new.repo) (of_source g.C.Source.left g.C.Source.faults c.args.codes.now c.with_codes.new.codes) (c.in-Ok.ensures.source.quiet (λ e. absurd (cc)))) c.with_codes.ensures.pulled

pub returns-in-Err-clause-pulled : goal.returns-in-Err-clause-pulled
returns-in-Err-clause-pulled g c = stops_at_repository (of_source g.R.Source.left g.R.Source.faults c.args.repo.now c.load_file.new.repo) (of_source g.C.Source.left g.C.Source.faults c.args.codes.now c.args.codes.now) refl c.in-Err.stop c.in-Err.ensures.pulled

pub returns-in-Ok-clause-repository : goal.returns-in-Ok-clause-repository
returns-in-Ok-clause-repository g c r told = if_err _ _ c.with_codes.result (codes_stop_apart r _ _) c.with_codes.ensures.pulled

pub returns-in-Err-clause-repository : goal.returns-in-Err-clause-repository
returns-in-Err-clause-repository g c r told = repository_stops r c.in-Err.stop (c.in-Err.ensures.refuses r told)

pub returns-in-Ok-clause-codes_behind : goal.returns-in-Ok-clause-codes_behind
returns-in-Ok-clause-codes_behind g c r told = inr (c.in-Ok.own, c.in-Ok.ensures.gives r told)

pub returns-in-Err-clause-codes_behind : goal.returns-in-Err-clause-codes_behind
returns-in-Err-clause-codes_behind g c r told = inl refl
