use Rattle.lexical_core.proofs.RealLaws.{contents_short}
use Rattle.lexical_core.proofs.laws.contents_are_short.Goals as goal

pub returns : goal.returns
returns c = contents_short
