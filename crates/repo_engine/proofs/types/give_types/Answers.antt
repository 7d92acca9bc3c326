use Rattle.std.proofs.Common.{refl}
use Rattle.repo_engine.proofs.Ends.{tells_pushed}
use Rattle.repo_engine.proofs.Messages.{push_ends, push_words}
use Rattle.repo_engine.specs.Answer.{GivesTypes}
use Rattle.repo_engine.specs.Texts.{types_text}
use Rattle.repo_engine.proofs.types.give_types.Goals as goal

pub returns-clause-no_words : goal.returns-clause-no_words
returns-clause-no_words g c = rw c.ended.ensures (push_words c.push_types.result)

pub returns-clause-ends : goal.returns-clause-ends
returns-clause-ends g c = rw c.ended.ensures (push_ends c.push_types.result)

pub returns-clause-verdict : goal.returns-clause-verdict
returns-clause-verdict g c = rw c.ended.ensures
    (tells_pushed g.O.Sink.held g.O.Sink.faults g.O.Sink.room _ _ (GivesTypes c.args.model.now) (types_text 0 c.args.model.now.types) c.push_types.result refl c.push_types.ensures)
