use Rattle.code_sets.proofs.JoinAnswer.{joined_has_none}
use Rattle.code_sets.proofs.laws.joined_has_none.Goals as goal

pub returns : goal.returns
returns c = joined_has_none
