use Rattle.message_model.proofs.SoundTables.{compiled_are_sound}
use Rattle.message_model.proofs.laws.compiled_are_sound.Goals as goal

pub returns : goal.returns
returns c = compiled_are_sound
