use Rattle.data_types.proofs.CollapseLaw.{one_collapsed}
use Rattle.data_types.proofs.laws.a_text_is_collapsed_one_way.Goals as goal

pub returns : goal.returns
returns c = one_collapsed
