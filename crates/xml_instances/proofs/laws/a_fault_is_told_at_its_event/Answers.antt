use Rattle.xml_instances.proofs.ToldAtEvents.{tells_at_once, tokens_tell_at_once}
use Rattle.xml_instances.proofs.laws.a_fault_is_told_at_its_event.Goals as goal

pub returns-clause-events : goal.returns-clause-events
returns-clause-events c = tells_at_once c.compiled_are_sound.ensures c.ready_are_finite.ensures c.one_more_is_open.ensures

pub returns-clause-tokens : goal.returns-clause-tokens
returns-clause-tokens c = tokens_tell_at_once c.compiled_are_sound.ensures c.ready_are_finite.ensures c.one_more_is_open.ensures c.clean_are_fronts.ensures
