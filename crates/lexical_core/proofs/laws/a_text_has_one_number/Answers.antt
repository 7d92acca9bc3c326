use Rattle.lexical_core.proofs.DecimalLaws.{text_number}
use Rattle.lexical_core.proofs.laws.a_text_has_one_number.Goals as goal

pub returns : goal.returns
returns c = text_number
