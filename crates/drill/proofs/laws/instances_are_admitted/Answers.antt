use Rattle.drill.proofs.Admitted.{admitted}
use Rattle.drill.proofs.laws.instances_are_admitted.Goals as goal

pub returns : goal.returns
returns c = admitted
