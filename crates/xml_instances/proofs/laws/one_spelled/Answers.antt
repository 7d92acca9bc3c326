use Rattle.xml_instances.proofs.OneXmlValue.{one_spelled}
use Rattle.xml_instances.proofs.laws.one_spelled.Goals as goal

pub returns : goal.returns
returns c m bytes v w sound sorted s r = one_spelled c.characters_have_one_answer.ensures m sound sorted c.one_marking.ensures bytes v w s r
