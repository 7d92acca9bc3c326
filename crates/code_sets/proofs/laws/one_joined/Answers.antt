use Rattle.code_sets.proofs.JoinAnswer.{one_joined}
use Rattle.code_sets.proofs.laws.one_joined.Goals as goal

pub returns : goal.returns
returns c = one_joined
