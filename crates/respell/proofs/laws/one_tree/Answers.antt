use Rattle.respell.proofs.OneTree.{one_tree}
use Rattle.respell.proofs.laws.one_tree.Goals as goal

pub returns : goal.returns
returns c = one_tree
