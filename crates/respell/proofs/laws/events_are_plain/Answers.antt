use Rattle.respell.proofs.WholePlain.{events_are_plain}
use Rattle.respell.proofs.laws.events_are_plain.Goals as goal

pub returns : goal.returns
returns c = events_are_plain
