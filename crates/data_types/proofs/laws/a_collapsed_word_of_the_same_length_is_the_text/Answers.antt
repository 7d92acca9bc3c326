use Rattle.data_types.proofs.Collapsible.{collapsed_same}
use Rattle.data_types.proofs.laws.a_collapsed_word_of_the_same_length_is_the_text.Goals as goal

pub returns : goal.returns
returns c = collapsed_same
