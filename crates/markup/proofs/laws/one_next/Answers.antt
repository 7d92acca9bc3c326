use Rattle.markup.proofs.Stays.{one_next}
use Rattle.markup.proofs.laws.one_next.Goals as goal

pub returns : goal.returns
returns c = one_next
