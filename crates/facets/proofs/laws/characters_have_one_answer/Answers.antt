use Rattle.facets.proofs.OneAnswer.{one_answer}
use Rattle.facets.proofs.laws.characters_have_one_answer.Goals as goal

pub returns : goal.returns
returns c = one_answer
