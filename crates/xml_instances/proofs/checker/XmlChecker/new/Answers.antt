use Rattle.message_model.specs.Tables.{types_of}
use Rattle.xml_instances.proofs.UnusedJudges.{none_ended}
use Rattle.xml_instances.proofs.checker.XmlChecker.new.Goals as goal

pub returns-clause-leaves : goal.returns-clause-leaves
returns-clause-leaves c = none_ended (types_of c.args.model.now) _ c.new-3.ensures.made
