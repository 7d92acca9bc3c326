use Rattle.std.proofs.Common.{ap}
use Rattle.outside.specs.Pushes.{as_push}
use Rattle.asn1_model.specs.ModuleText.{module_text}
use Rattle.repo_engine.proofs.Ends.{tells_pushed, goes_pushed, goes_nowhere, tells_stopped}
use Rattle.repo_engine.proofs.Messages.{push_ends, push_words}
use Rattle.repo_engine.specs.Answer.{GivesModule}
use Rattle.repo_engine.specs.Verdict.{accepted}
use Rattle.repo_engine.specs.declared.refusal.Stop.TheVariants.{Memory}
use Rattle.repo_engine.proofs.asn1.give_module.Goals as goal

pub returns-in-Ok-clause-no_words : goal.returns-in-Ok-clause-no_words
returns-in-Ok-clause-no_words g c = rw c.ended_by.ensures (push_words (as_push c.write_module.result))

pub returns-in-Ok-clause-ends : goal.returns-in-Ok-clause-ends
returns-in-Ok-clause-ends g c = rw c.ended_by.ensures (push_ends (as_push c.write_module.result))

pub returns-in-Ok-clause-verdict : goal.returns-in-Ok-clause-verdict
returns-in-Ok-clause-verdict g c = rw c.ended_by.ensures
    (tells_pushed g.O.Sink.held g.O.Sink.faults g.O.Sink.room _ _ (GivesModule c.args.model.now) (module_text c.in-Ok.«module») (as_push c.write_module.result)
    (ap (λ s. accepted (module_text s)) c.in-Ok.ensures) c.write_module.ensures)

pub returns-in-Ok-clause-goes_out : goal.returns-in-Ok-clause-goes_out
returns-in-Ok-clause-goes_out g c = rw c.ended_by.ensures
    (goes_pushed g.O.Sink.held g.O.Sink.faults g.O.Sink.room _ _ (module_text c.in-Ok.«module») (as_push c.write_module.result) c.write_module.ensures)

pub returns-in-Err-clause-verdict : goal.returns-in-Err-clause-verdict
returns-in-Err-clause-verdict g c = tells_stopped _ (GivesModule c.args.model.now) (λ v. ⊥) Memory (λ v h. absurd h) tt tt

pub returns-in-Err-clause-goes_out : goal.returns-in-Err-clause-goes_out
returns-in-Err-clause-goes_out g c = goes_nowhere g.O.Sink.held g.O.Sink.faults _ Memory tt
