use Rattle.der_codec.proofs.ToldAtParts.{fault_is_at_part}
use Rattle.der_codec.proofs.laws.the_first_fault_ends_all_instances.Goals as goal

pub returns : goal.returns
returns c = fault_is_at_part c.compiled_are_sound.ensures c.ready_are_finite.ensures c.tables_are_sound.ensures c.fragments_apart.ensures c.front_is_open.ensures c.broken_is_not_open.ensures
