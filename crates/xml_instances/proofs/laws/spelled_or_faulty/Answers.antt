use Rattle.xml_instances.proofs.SomeFault.{spelled_or_faulty}
use Rattle.xml_instances.proofs.laws.spelled_or_faulty.Goals as goal

pub returns : goal.returns
returns c = spelled_or_faulty c.characters_have_some_answer.ensures c.whole_or_faulty.ensures c.fine_is_spelled.ensures
