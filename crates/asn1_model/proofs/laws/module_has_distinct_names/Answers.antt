use Rattle.asn1_model.proofs.laws.module_has_distinct_names.Goals as goal
use Rattle.asn1_model.proofs.ReadyModule as ready

pub returns : goal.returns
returns c = ready.has_distinct_names
