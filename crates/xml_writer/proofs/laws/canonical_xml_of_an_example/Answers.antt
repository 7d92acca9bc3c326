use Rattle.xml_writer.proofs.Example.{example_written}
use Rattle.xml_writer.proofs.laws.canonical_xml_of_an_example.Goals as goal

pub returns : goal.returns
returns c = example_written
