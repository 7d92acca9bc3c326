use Rattle.asn1_model.proofs.laws.compiled_types_are_sound.Goals as goal
use Rattle.asn1_model.proofs.ReadyModule as ready

pub returns : goal.returns
returns c = ready.compiled_are_sound
