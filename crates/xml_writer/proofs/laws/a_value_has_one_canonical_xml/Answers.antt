use Rattle.xml_writer.proofs.OneText.{canonical_one}
use Rattle.xml_writer.proofs.laws.a_value_has_one_canonical_xml.Goals as goal

pub returns : goal.returns
returns c = canonical_one
