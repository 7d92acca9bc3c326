use Rattle.xml_writer.proofs.SomeText.{canonical_some}
use Rattle.xml_writer.proofs.laws.a_value_has_a_canonical_xml.Goals as goal

pub returns : goal.returns
returns c = canonical_some
