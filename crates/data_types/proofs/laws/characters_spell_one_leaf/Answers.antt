use Rattle.data_types.proofs.LeafLaws.{one_leaf}
use Rattle.data_types.proofs.laws.characters_spell_one_leaf.Goals as goal

pub returns : goal.returns
returns c = one_leaf
