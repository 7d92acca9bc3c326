use Rattle.lexical_core.proofs.RealLaws.{contents_number}
use Rattle.lexical_core.proofs.laws.contents_have_one_number.Goals as goal

pub returns : goal.returns
returns c = contents_number
