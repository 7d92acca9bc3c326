use Rattle.data_types.proofs.CanonicalLemmas.{has_canonical}
use Rattle.data_types.proofs.laws.a_leaf_has_a_canonical_text.Goals as goal

pub returns : goal.returns
returns c = has_canonical
