use Rattle.data_types.proofs.ValueLemmas.{children_same}
use Rattle.data_types.proofs.laws.children_are_the_values_of_their_slots.Goals as goal

pub returns : goal.returns
returns c = children_same
