use Rattle.respell.proofs.OneTree.{no_proper_front}
use Rattle.respell.proofs.laws.no_proper_front.Goals as goal

pub returns : goal.returns
returns c = no_proper_front
