use Rattle.xml_writer.proofs.CompiledNames.{compiled_spells}
use Rattle.xml_writer.proofs.laws.canonical_xml_of_a_message_spells_its_value.Goals as goal

pub returns : goal.returns
returns c = compiled_spells
