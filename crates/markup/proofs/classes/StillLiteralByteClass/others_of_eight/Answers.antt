use Rattle.std.proofs.Common.{leb, cond, not, refl, arith}
use Rattle.std.proofs.lemmas.Simd.{zip2_splat}
use Rattle.lexical_core.proofs.LaneRuns.{joined, splat_is, masked}
use Rattle.markup.specs.Literals.{is_still_literal}
use Rattle.markup.proofs.classes.StillLiteralByteClass.others_of_eight.Goals as goal

pub returns : goal.returns
returns c =
    let v = c.args.bytes in
    let long = c.fits-bytes.0 in
    masked _ (λ byte. not (is_still_literal byte)) v _ (omega arith) c.fits-bytes.1
    (joined _ _ _ v (joined _ _ _ v (joined _ _ _ v (joined _ _ _ v (joined _ _ _ v (joined (λ a b. cond (leb a b) 255 0) _ _ v (splat_is v 8 96 long) (zip2_splat _ v 8 32 long)) (zip2_splat _ v 8 9 long)) (zip2_splat _ v 8 10 long)) (zip2_splat _ v 8 60 long)) (zip2_splat _ v 8 38 long)) (zip2_splat _ v 8 93 long)) refl
