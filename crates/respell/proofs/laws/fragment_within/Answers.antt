use Rattle.respell.proofs.Within.{fragment_stands}
use Rattle.respell.proofs.laws.fragment_within.Goals as goal

pub returns : goal.returns
returns c = fragment_stands
