use Rattle.std.proofs.Common.{not, refl, arith}
use Rattle.std.proofs.lemmas.Simd.{zip2_splat}
use Rattle.lexical_core.proofs.LaneRuns.{joined, masked}
use Rattle.data_types.specs.inner.Words.{is_word_code}
use Rattle.data_types.proofs.words.WordCodeByteClass.others_of_eight.Goals as goal

pub returns : goal.returns
returns c =
    let v = c.args.bytes in
    let long = c.fits-bytes.0 in
    masked _ (λ byte. not (is_word_code byte)) v _ (omega arith) c.fits-bytes.1
    (joined _ _ _ v (joined _ _ _ v (joined _ _ _ v (zip2_splat _ v 8 32 long) (zip2_splat _ v 8 9 long)) (zip2_splat _ v 8 10 long)) (zip2_splat _ v 8 13 long)) refl
