use Rattle.lexical_core.proofs.DecimalLaws.{canonical_text}
use Rattle.lexical_core.proofs.laws.a_number_has_one_canonical_text.Goals as goal

pub returns : goal.returns
returns c = canonical_text
