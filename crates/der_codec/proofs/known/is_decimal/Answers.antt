use Rattle.data_types.specs.LeafAnswers.{leaf_of}
use Rattle.der_codec.proofs.known.is_decimal.Goals as goal

pub returns-in-Ok : goal.returns-in-Ok
returns-in-Ok c = λ e. (leaf_of c.in-Ok._leaf, c.in-Ok.ensures.judged)
