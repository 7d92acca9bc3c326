use Rattle.xml_writer.proofs.SpelledDocuments.{canonical_spells}
use Rattle.xml_writer.proofs.laws.canonical_xml_spells_its_value.Goals as goal

pub returns : goal.returns
returns c = canonical_spells
