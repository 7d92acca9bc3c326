use Rattle.std.proofs.Common.{refl}
use Rattle.repo_engine.specs.Sources.{of_source}
use Rattle.repo_engine.proofs.Ends.{tells_pushed, tells_stopped}
use Rattle.repo_engine.proofs.FileVerdicts.{push_apart}
use Rattle.repo_engine.proofs.Steps.{from_refused, from_given}
use Rattle.repo_engine.specs.Answer.{FromRepository, Lists, RefusesRepository}
use Rattle.repo_engine.specs.Texts.{list_text}
use Rattle.repo_engine.proofs.Pulls.{push_stops}
use Rattle.repo_engine.proofs.list.list.Goals as goal

pub returns-in-Ok-clause-verdict : goal.returns-in-Ok-clause-verdict
returns-in-Ok-clause-verdict g c r bytes left = rw c.ended.ensures
    (tells_pushed g.O.Sink.held g.O.Sink.faults g.O.Sink.room _ _ (FromRepository c.args.codes_word.now r bytes Lists) (list_text c.in-Ok.repository.messages) c.push_list.result
    (from_given c.args.codes_word.now r bytes Lists c.in-Ok.repository _ (c.in-Ok.ensures.gives r bytes left) refl) c.push_list.ensures)

pub returns-in-Err-clause-verdict : goal.returns-in-Err-clause-verdict
returns-in-Err-clause-verdict g c r bytes left =
    tells_stopped _ (FromRepository c.args.codes_word.now r bytes Lists) (RefusesRepository c.args.codes_word.now r bytes) c.in-Err.stop
    (from_refused c.args.codes_word.now r bytes Lists) c.in-Err.ensures.input (c.in-Err.ensures.refuses r bytes left)

pub returns-in-Ok-clause-repository : goal.returns-in-Ok-clause-repository
returns-in-Ok-clause-repository g c r told = rw c.ended.ensures (push_apart r c.push_list.result)

pub returns-in-Ok-clause-pulled : goal.returns-in-Ok-clause-pulled
returns-in-Ok-clause-pulled g c = rw c.ended.ensures (push_stops (of_source g.R.Source.left g.R.Source.faults c.args.repo.now c.read_repository.new.repo) (of_source g.C.Source.left g.C.Source.faults c.args.codes.now c.read_repository.new.codes) c.push_list.result)
