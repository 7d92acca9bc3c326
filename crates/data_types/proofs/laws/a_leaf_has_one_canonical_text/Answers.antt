use Rattle.data_types.proofs.CanonicalLemmas.{one_canonical}
use Rattle.data_types.proofs.laws.a_leaf_has_one_canonical_text.Goals as goal

pub returns : goal.returns
returns c = one_canonical
