use Rattle.pattern_match.proofs.OneTree.{one_tree}
use Rattle.pattern_match.proofs.laws.one_tree.Goals as goal

pub returns : goal.returns
returns c = one_tree
