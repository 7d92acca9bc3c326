use Rattle.facets.proofs.SomeAnswer.{some_answer}
use Rattle.facets.proofs.laws.characters_have_some_answer.Goals as goal

pub returns : goal.returns
returns c = some_answer
