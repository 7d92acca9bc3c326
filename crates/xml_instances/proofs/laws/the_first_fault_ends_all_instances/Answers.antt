use Rattle.xml_instances.proofs.ToldAtEvents.{fault_is_at_event}
use Rattle.xml_instances.proofs.laws.the_first_fault_ends_all_instances.Goals as goal

pub returns : goal.returns
returns c = fault_is_at_event c.compiled_are_sound.ensures c.ready_are_finite.ensures c.fine_is_open.ensures c.broken_is_not_open.ensures c.clean_are_fronts.ensures
