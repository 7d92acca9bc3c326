use Rattle.std.proofs.Common.{refl}
use Rattle.repo_engine.proofs.Ends.{tells_pushed, goes_pushed, goes_nowhere, tells_stopped}
use Rattle.repo_engine.proofs.Messages.{push_ends, push_words}
use Rattle.repo_engine.specs.Answer.{Drills}
use Rattle.repo_engine.specs.Texts.{drill_text}
use Rattle.repo_engine.specs.declared.refusal.Stop.TheVariants.{Memory}
use Rattle.repo_engine.proofs.drilling.give_drill.Goals as goal

pub returns-in-Ok-clause-no_words : goal.returns-in-Ok-clause-no_words
returns-in-Ok-clause-no_words g c = rw c.ended.ensures (push_words c.push_drilled.result)

pub returns-in-Ok-clause-ends : goal.returns-in-Ok-clause-ends
returns-in-Ok-clause-ends g c = rw c.ended.ensures (push_ends c.push_drilled.result)

pub returns-in-Ok-clause-verdict : goal.returns-in-Ok-clause-verdict
returns-in-Ok-clause-verdict g c = rw c.ended.ensures
    (tells_pushed g.O.Sink.held g.O.Sink.faults g.O.Sink.room _ _ (Drills c.args.number c.args.size) (drill_text c.in-Ok.drilled) c.push_drilled.result
    (c.in-Ok.drilled, c.in-Ok.ensures, refl) c.push_drilled.ensures)

pub returns-in-Ok-clause-goes_out : goal.returns-in-Ok-clause-goes_out
returns-in-Ok-clause-goes_out g c = rw c.ended.ensures
    (goes_pushed g.O.Sink.held g.O.Sink.faults g.O.Sink.room _ _ (drill_text c.in-Ok.drilled) c.push_drilled.result c.push_drilled.ensures)

pub returns-in-Err-clause-verdict : goal.returns-in-Err-clause-verdict
returns-in-Err-clause-verdict g c = tells_stopped _ (Drills c.args.number c.args.size) (λ v. ⊥) Memory (λ v h. absurd h) tt tt

pub returns-in-Err-clause-goes_out : goal.returns-in-Err-clause-goes_out
returns-in-Err-clause-goes_out g c = goes_nowhere g.O.Sink.held g.O.Sink.faults _ Memory tt
