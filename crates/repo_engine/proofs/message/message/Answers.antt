use Rattle.std.proofs.Common.{inl, inr, refl}
use Rattle.message_model.specs.Tables.{Tables}
use Rattle.repo_engine.specs.Answer.{FromMessage, GivesMessage, IsVerdictOfVerb, RefusesUpToMessage}
use Rattle.repo_engine.specs.Sources.{of_source}
use Rattle.repo_engine.proofs.Ends.{tells_stopped, goes_nowhere}
use Rattle.repo_engine.proofs.FileVerdicts.{files_go_on, files_stop, instance_apart}
use Rattle.repo_engine.proofs.Performing.{tells_more}
use Rattle.repo_engine.proofs.Messages.{first_quiet, second_quiet, message_given, message_refused, third_on, third_not, no_words}
use Rattle.repo_engine.proofs.Pulls.{no_files, stops_soon, files_soon, no_instance}
use Rattle.repo_engine.proofs.Steps.{if_err}
use Rattle.repo_engine.proofs.message.message.Goals as goal

pub returns-in-Ok-clause-sources : goal.returns-in-Ok-clause-sources
returns-in-Ok-clause-sources g c = third_on _ _ _ _ _ _ c.in-Ok.ensures.sources c.on_model.ensures.source

pub returns-in-Ok-clause-repository : goal.returns-in-Ok-clause-repository
returns-in-Ok-clause-repository g c r told = instance_apart r (λ i. IsVerdictOfVerb c.args.verb i c.in-Ok.model) (of_source g.I.Source.left g.I.Source.faults c.args.inst.now c.on_model.new.inst) c.on_model.result c.on_model.ensures.pulled

pub returns-in-Ok-clause-files : goal.returns-in-Ok-clause-files
returns-in-Ok-clause-files g c r codes left =
    files_go_on (RefusesUpToMessage c.args.codes_word.now c.args.id.now r codes) ((T : Tables) × GivesMessage c.args.codes_word.now c.args.id.now r codes T) (λ i. IsVerdictOfVerb c.args.verb i c.in-Ok.model) (of_source g.I.Source.left g.I.Source.faults c.args.inst.now c.on_model.new.inst) c.on_model.result (c.in-Ok.model, c.in-Ok.ensures.gives r codes left) c.on_model.ensures.pulled

pub returns-in-Err-clause-repository : goal.returns-in-Err-clause-repository
returns-in-Err-clause-repository g c r told = c.in-Err.ensures.repository r told

pub returns-in-Err-clause-files : goal.returns-in-Err-clause-files
returns-in-Err-clause-files g c r codes left =
    files_stop (RefusesUpToMessage c.args.codes_word.now c.args.id.now r codes) ((T : Tables) × GivesMessage c.args.codes_word.now c.args.id.now r codes T) (of_source g.R.Source.left g.R.Source.faults c.args.repo.now c.read_message.new.repo) (of_source g.C.Source.left g.C.Source.faults c.args.codes.now c.read_message.new.codes) c.in-Err.stop c.in-Err.ensures.input c.in-Err.ensures.pulled (c.in-Err.ensures.refuses r codes left)

pub returns-in-Ok-clause-verdict : goal.returns-in-Ok-clause-verdict
returns-in-Ok-clause-verdict g c r bytes i left told =
    tells_more (IsVerdictOfVerb c.args.verb i c.in-Ok.model) (FromMessage c.args.codes_word.now c.args.id.now r bytes (IsVerdictOfVerb c.args.verb i)) c.on_model.result _ _
    (λ v h. message_given c.args.codes_word.now c.args.id.now r bytes (IsVerdictOfVerb c.args.verb i) c.in-Ok.model v (c.in-Ok.ensures.gives r bytes left) h) (c.on_model.ensures.verdict i told)

pub returns-in-Err-clause-no_words : goal.returns-in-Err-clause-no_words
returns-in-Err-clause-no_words g c = no_words c.in-Err.stop c.in-Err.ensures.input

pub returns-in-Err-clause-sources : goal.returns-in-Err-clause-sources
returns-in-Err-clause-sources g c = third_not _ _ c.in-Err.stop _ _ _ c.in-Err.ensures.input c.in-Err.ensures.sources refl

pub returns-in-Err-clause-verdict : goal.returns-in-Err-clause-verdict
returns-in-Err-clause-verdict g c r bytes i left told =
    tells_stopped _ (FromMessage c.args.codes_word.now c.args.id.now r bytes (IsVerdictOfVerb c.args.verb i)) (RefusesUpToMessage c.args.codes_word.now c.args.id.now r bytes) c.in-Err.stop
    (message_refused c.args.codes_word.now c.args.id.now r bytes (IsVerdictOfVerb c.args.verb i)) c.in-Err.ensures.input (c.in-Err.ensures.refuses r bytes left)

pub returns-in-Err-clause-goes_out : goal.returns-in-Err-clause-goes_out
returns-in-Err-clause-goes_out g c = goes_nowhere g.O.Sink.held g.O.Sink.faults _ c.in-Err.stop c.in-Err.ensures.input

pub returns-in-Ok-clause-files_pulled : goal.returns-in-Ok-clause-files_pulled
returns-in-Ok-clause-files_pulled g c =
    let repo = (of_source g.R.Source.left g.R.Source.faults c.args.repo.now c.read_message.new.repo) in
    let codes = (of_source g.C.Source.left g.C.Source.faults c.args.codes.now c.read_message.new.codes) in
    if_err _ _ c.on_model.result (no_files (λ i. IsVerdictOfVerb c.args.verb i c.in-Ok.model) (of_source g.I.Source.left g.I.Source.faults c.args.inst.now c.on_model.new.inst) repo codes (first_quiet _ repo codes c.in-Ok.ensures.sources) (second_quiet _ repo codes c.in-Ok.ensures.sources)) c.on_model.ensures.pulled

pub returns-in-Ok-clause-instance_pulled : goal.returns-in-Ok-clause-instance_pulled
returns-in-Ok-clause-instance_pulled g c r codes left =
    if_err _ _ c.on_model.result
    (stops_soon (λ i. IsVerdictOfVerb c.args.verb i c.in-Ok.model) (of_source g.I.Source.left g.I.Source.faults c.args.inst.now c.on_model.new.inst) (λ i. FromMessage c.args.codes_word.now c.args.id.now r codes (IsVerdictOfVerb c.args.verb i))
    (λ i v. c.message_goes_on.ensures c.args.verb c.args.codes_word.now c.args.id.now r codes i c.in-Ok.model v (c.in-Ok.ensures.gives r codes left))) c.on_model.ensures.pulled

pub returns-in-Err-clause-files_pulled : goal.returns-in-Err-clause-files_pulled
returns-in-Err-clause-files_pulled g c = files_soon (of_source g.R.Source.left g.R.Source.faults c.args.repo.now c.read_message.new.repo) (of_source g.C.Source.left g.C.Source.faults c.args.codes.now c.read_message.new.codes) (of_source g.I.Source.left g.I.Source.faults c.args.inst.now c.args.inst.now) refl c.in-Err.stop c.in-Err.ensures.pulled

pub returns-in-Err-clause-instance_pulled : goal.returns-in-Err-clause-instance_pulled
returns-in-Err-clause-instance_pulled g c r codes left =
    no_instance (of_source g.R.Source.left g.R.Source.faults c.args.repo.now c.read_message.new.repo) (of_source g.C.Source.left g.C.Source.faults c.args.codes.now c.read_message.new.codes) (λ i. FromMessage c.args.codes_word.now c.args.id.now r codes (IsVerdictOfVerb c.args.verb i)) (of_source g.I.Source.left g.I.Source.faults c.args.inst.now c.args.inst.now) refl c.in-Err.stop c.in-Err.ensures.pulled

pub returns-in-Ok-clause-instance_behind : goal.returns-in-Ok-clause-instance_behind
returns-in-Ok-clause-instance_behind g c r codes left = inr (c.in-Ok.model, c.in-Ok.ensures.gives r codes left)

pub returns-in-Err-clause-instance_behind : goal.returns-in-Err-clause-instance_behind
returns-in-Err-clause-instance_behind g c r codes left = inl refl
