use Rattle.markup.proofs.OneMarking.{one_marking}
use Rattle.markup.proofs.laws.one_marking.Goals as goal

pub returns : goal.returns
returns c = one_marking
