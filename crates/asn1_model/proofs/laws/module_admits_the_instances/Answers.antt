use Rattle.asn1_model.proofs.laws.module_admits_the_instances.Goals as goal
use Rattle.asn1_model.proofs.ReadyModule as ready

pub returns : goal.returns
returns c = ready.same_instances
