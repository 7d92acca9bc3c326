use Rattle.std.proofs.Common.{length, refl}
use Rattle.std.specs.Prelude.{encode_utf8_all}
use Rattle.data_types.specs.Leaf.{Bytes}
use Rattle.data_types.proofs.leaf_step.text_leaf.Goals as goal

pub returns-in-Some : goal.returns-in-Some
returns-in-Some c = λ most chars (are, holds).
    let kept = c.in-Some.ensures.some most (length chars) (encode_utf8_all chars) holds in ((are, kept.0), kept.1)

pub returns-in-None : goal.returns-in-None
returns-in-None c = λ most chars (are, holds).
    (Bytes (encode_utf8_all chars), (are, refl), c.in-None.ensures.none most (length chars) (encode_utf8_all chars) holds)
