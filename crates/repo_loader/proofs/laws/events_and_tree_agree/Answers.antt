-- By recursion on the tree.
use Rattle.repo_loader.proofs.TreeSelection.{selects_the_tree}
use Rattle.repo_loader.proofs.laws.events_and_tree_agree.Goals as goal

pub returns : goal.returns
returns c = selects_the_tree
