use Rattle.data_types.proofs.Collapsible.{has_collapsed}
use Rattle.data_types.proofs.laws.a_text_has_a_collapsed_text.Goals as goal

pub returns : goal.returns
returns c = has_collapsed
