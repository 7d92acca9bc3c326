use Rattle.repo_engine.proofs.AdmittedInstances.{schema_admits_what_is_accepted}
use Rattle.repo_engine.proofs.laws.schema_admits_what_is_accepted.Goals as goal

pub returns : goal.returns
returns c = schema_admits_what_is_accepted
