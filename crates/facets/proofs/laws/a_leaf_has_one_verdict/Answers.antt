use Rattle.facets.proofs.CodeVerdicts.{one_verdict}
use Rattle.facets.proofs.laws.a_leaf_has_one_verdict.Goals as goal

pub returns : goal.returns
returns c = one_verdict
