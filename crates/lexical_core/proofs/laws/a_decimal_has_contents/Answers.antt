use Rattle.lexical_core.proofs.RealLaws.{contents_there}
use Rattle.lexical_core.proofs.laws.a_decimal_has_contents.Goals as goal

pub returns : goal.returns
returns c = contents_there
