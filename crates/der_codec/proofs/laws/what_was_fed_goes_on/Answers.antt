use Rattle.der_codec.proofs.ToldAtParts.{ready_fed_is_open}
use Rattle.der_codec.proofs.laws.what_was_fed_goes_on.Goals as goal

pub returns : goal.returns
returns c = ready_fed_is_open c.compiled_are_sound.ensures c.ready_are_finite.ensures c.tables_are_sound.ensures c.fragments_apart.ensures c.front_is_open.ensures
