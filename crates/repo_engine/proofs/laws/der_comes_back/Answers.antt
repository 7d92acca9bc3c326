use Rattle.repo_engine.proofs.RoundTrips.{der_comes_back}
use Rattle.repo_engine.proofs.laws.der_comes_back.Goals as goal

pub returns : goal.returns
returns c = der_comes_back c.compiled_are_sound.ensures c.one_verdict.ensures c.canonical_xml_of_a_message_spells_its_value.ensures
