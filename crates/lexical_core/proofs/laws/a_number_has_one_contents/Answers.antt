use Rattle.lexical_core.proofs.RealLaws.{number_contents}
use Rattle.lexical_core.proofs.laws.a_number_has_one_contents.Goals as goal

pub returns : goal.returns
returns c = number_contents
