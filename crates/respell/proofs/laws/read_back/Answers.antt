use Rattle.respell.proofs.OneTree.{read_back}
use Rattle.respell.proofs.laws.read_back.Goals as goal

pub returns : goal.returns
returns c = read_back
