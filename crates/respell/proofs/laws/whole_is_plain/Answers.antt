use Rattle.respell.proofs.WholePlain.{whole_is_plain}
use Rattle.respell.proofs.laws.whole_is_plain.Goals as goal

pub returns : goal.returns
returns c = whole_is_plain
