use Rattle.xml_instances.proofs.ToldAtEvents.{ready_fed_is_open}
use Rattle.xml_instances.proofs.laws.what_was_fed_goes_on.Goals as goal

pub returns : goal.returns
returns c = ready_fed_is_open c.compiled_are_sound.ensures c.ready_are_finite.ensures c.fed_is_open.ensures
