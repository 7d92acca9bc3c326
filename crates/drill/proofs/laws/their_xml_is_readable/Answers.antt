use Rattle.drill.proofs.XmlReadable.{xml_is_readable}
use Rattle.drill.proofs.laws.their_xml_is_readable.Goals as goal

pub returns : goal.returns
returns c = xml_is_readable
