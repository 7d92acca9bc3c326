use Rattle.repo_engine.specs.Answer.{IsVerdictOfVerb}
use Rattle.repo_engine.proofs.OneAnswer.{message_goes_on}
use Rattle.repo_engine.proofs.laws.message_goes_on.Goals as goal

pub returns : goal.returns
returns c verb codes_word id r codes i T v gives from = message_goes_on c.steps_are_apart.ensures codes_word id r codes (IsVerdictOfVerb verb i) T v gives from
