use Rattle.markup.proofs.OneFault.{whole_has_none}
use Rattle.markup.proofs.laws.whole_has_none.Goals as goal

pub returns : goal.returns
returns c = whole_has_none
