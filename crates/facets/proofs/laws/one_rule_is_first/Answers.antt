use Rattle.facets.proofs.OneAnswer.{one_first}
use Rattle.facets.proofs.laws.one_rule_is_first.Goals as goal

pub returns : goal.returns
returns c = one_first
