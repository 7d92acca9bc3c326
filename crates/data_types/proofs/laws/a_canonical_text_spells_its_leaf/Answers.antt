use Rattle.data_types.proofs.CanonicalLemmas.{canonical_spells}
use Rattle.data_types.proofs.laws.a_canonical_text_spells_its_leaf.Goals as goal

pub returns : goal.returns
returns c = canonical_spells
