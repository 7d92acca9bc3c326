use Rattle.std.proofs.Common.{not, refl, arith}
use Rattle.std.proofs.lemmas.Simd.{zip2_splat}
use Rattle.lexical_core.proofs.LaneRuns.{joined, masked}
use Rattle.markup.specs.Chars.{is_space}
use Rattle.markup.specs.Literals.{is_still_space}
use Rattle.markup.proofs.classes.StillBlankByteClass.others_of_eight.Goals as goal

pub returns : goal.returns
unfolding is_space
returns c =
    let v = c.args.bytes in
    let long = c.fits-bytes.0 in
    masked _ (λ byte. not (is_still_space byte)) v _ (omega arith) c.fits-bytes.1
    (joined _ _ _ v (joined _ _ _ v (zip2_splat _ v 8 32 long) (zip2_splat _ v 8 9 long)) (zip2_splat _ v 8 10 long)) refl
