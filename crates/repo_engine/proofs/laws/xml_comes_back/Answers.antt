use Rattle.repo_engine.proofs.RoundTrips.{xml_comes_back}
use Rattle.repo_engine.proofs.laws.xml_comes_back.Goals as goal

pub returns : goal.returns
returns c = xml_comes_back c.compiled_are_sound.ensures c.one_verdict.ensures c.one_der_verdict.ensures
