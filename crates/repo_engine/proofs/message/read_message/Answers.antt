use Rattle.std.proofs.Common.{inl, inr}
use Rattle.repo_engine.specs.Answer.{RefusesMessage, RefusesRepository, RefusesUpToMessage}
use Rattle.repo_engine.specs.Sources.{source_ended_of, of_source}
use Rattle.repo_engine.proofs.Steps.{if_ok, if_err, if_both, stops_by}
use Rattle.repo_engine.proofs.FileVerdicts.{message_stops_apart}
use Rattle.repo_engine.proofs.Messages.{both_on, not_failing}
use Rattle.repo_engine.proofs.Pulls.{stops_at_message}
use Rattle.repo_engine.proofs.message.read_message.Goals as goal

pub returns-in-Ok-clause-gives : goal.returns-in-Ok-clause-gives
returns-in-Ok-clause-gives g c r bytes left = if_ok _ _ c.compile.result (λ model h. (c.in-Ok.repository, c.in-Ok.ensures.gives r bytes left, h)) c.compile.ensures.gives

pub returns-in-Ok-clause-refuses : goal.returns-in-Ok-clause-refuses
returns-in-Ok-clause-refuses g c r bytes left =
    if_err _ _ c.compile.result
    (λ stop. stops_by (RefusesMessage c.in-Ok.repository c.args.id.now) (RefusesUpToMessage c.args.codes_word.now c.args.id.now r bytes) stop (λ v h. inr (c.in-Ok.repository, c.in-Ok.ensures.gives r bytes left, h)))
    c.compile.ensures.refuses

pub returns-in-Ok-clause-input : goal.returns-in-Ok-clause-input
returns-in-Ok-clause-input g c = if_err _ _ c.compile.result (λ stop h. h.0) c.compile.ensures.stops

pub returns-in-Ok-clause-sources : goal.returns-in-Ok-clause-sources
returns-in-Ok-clause-sources g c = both_on _ (source_ended_of c.compile.result) _ _ (not_failing c.compile.result c.compile.ensures.stops) c.in-Ok.ensures.sources

pub returns-in-Err-clause-refuses : goal.returns-in-Err-clause-refuses
returns-in-Err-clause-refuses g c r bytes left =
    stops_by (RefusesRepository c.args.codes_word.now r bytes) (RefusesUpToMessage c.args.codes_word.now c.args.id.now r bytes) c.in-Err.stop (λ v h. inl h) (c.in-Err.ensures.refuses r bytes left)

pub returns-in-Ok-clause-repository : goal.returns-in-Ok-clause-repository
returns-in-Ok-clause-repository g c r told = if_err _ _ c.compile.result (message_stops_apart r c.in-Ok.repository c.args.id.now) c.compile.ensures.refuses

pub returns-in-Ok-clause-pulled : goal.returns-in-Ok-clause-pulled
returns-in-Ok-clause-pulled g c = if_both _ _ _ c.compile.result (stops_at_message (of_source g.R.Source.left g.R.Source.faults c.args.repo.now c.read_repository.new.repo) (of_source g.C.Source.left g.C.Source.faults c.args.codes.now c.read_repository.new.codes) c.in-Ok.repository c.args.id.now) c.compile.ensures.refuses c.compile.ensures.stops
