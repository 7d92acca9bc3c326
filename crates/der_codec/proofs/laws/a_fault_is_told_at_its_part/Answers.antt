use Rattle.der_codec.proofs.ToldAtParts.{tells_at_once}
use Rattle.der_codec.proofs.laws.a_fault_is_told_at_its_part.Goals as goal

pub returns : goal.returns
returns c = tells_at_once c.compiled_are_sound.ensures c.ready_are_finite.ensures c.tables_are_sound.ensures c.fragments_apart.ensures c.part_is_open.ensures
