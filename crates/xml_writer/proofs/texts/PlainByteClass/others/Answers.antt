use Rattle.std.proofs.Common.{not, refl, arith}
use Rattle.std.proofs.lemmas.Simd.{zip2_splat}
use Rattle.lexical_core.proofs.LaneRuns.{joined, masked}
use Rattle.xml_writer.specs.inner.PlainTexts.{is_plain_anywhere}
use Rattle.xml_writer.proofs.texts.PlainByteClass.others.Goals as goal

pub returns : goal.returns
returns c =
    let v = c.args.bytes in
    let long = c.fits-bytes.0 in
    masked _ (λ byte. not (is_plain_anywhere byte)) v _ (omega arith) c.fits-bytes.1
    (joined _ _ _ v (joined _ _ _ v (joined _ _ _ v (joined _ _ _ v (zip2_splat _ v 16 31 long) (zip2_splat _ v 16 34 long)) (zip2_splat _ v 16 38 long)) (zip2_splat _ v 16 60 long)) (zip2_splat _ v 16 62 long)) refl
