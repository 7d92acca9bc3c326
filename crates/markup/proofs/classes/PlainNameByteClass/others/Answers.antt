use Rattle.std.proofs.Common.{ℕ, leb, cond, not, refl, arith}
use Rattle.std.proofs.lemmas.Simd.{zip2_splat}
use Rattle.lexical_core.proofs.LaneRuns.{joined, splat_is, masked}
use Rattle.markup.specs.PlainTags.{continues_plain}
use Rattle.markup.proofs.classes.PlainNameByteClass.others.Goals as goal

pub returns : goal.returns
returns c =
    let v = c.args.bytes in
    let long = c.fits-bytes.0 in
    masked _ (λ byte. not (continues_plain byte)) v _ (omega arith) c.fits-bytes.1
    (joined _ _ _ v (joined _ _ _ v (joined _ _ _ v (joined _ _ _ v (joined (λ a b. cond (leb a b) 255 0) _ _ v (splat_is v 16 26 long) (joined _ _ _ v (zip2_splat {Y = ℕ} _ v 16 32 long) (splat_is v 16 97 long))) (joined (λ a b. cond (leb a b) 255 0) _ _ v (splat_is v 16 10 long) (zip2_splat _ v 16 48 long))) (zip2_splat _ v 16 95 long)) (zip2_splat _ v 16 45 long)) (zip2_splat _ v 16 46 long)) refl
