use Rattle.respell.proofs.WholePlain.{tree_is_plain}
use Rattle.respell.proofs.laws.tree_is_plain.Goals as goal

pub returns : goal.returns
returns c = tree_is_plain
