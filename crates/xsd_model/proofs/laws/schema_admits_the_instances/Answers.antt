use Rattle.xsd_model.proofs.ReadySchema.{same_instances}
use Rattle.xsd_model.proofs.laws.schema_admits_the_instances.Goals as goal

pub returns : goal.returns
returns c = same_instances
