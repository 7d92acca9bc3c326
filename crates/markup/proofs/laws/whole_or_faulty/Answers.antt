use Rattle.markup.proofs.WholeOrFaulty.{whole_or_faulty}
use Rattle.markup.proofs.laws.whole_or_faulty.Goals as goal

pub returns : goal.returns
returns c = whole_or_faulty
