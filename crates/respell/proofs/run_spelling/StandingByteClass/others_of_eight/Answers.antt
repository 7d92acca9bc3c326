use Rattle.std.proofs.Common.{not, refl, arith}
use Rattle.std.proofs.lemmas.Simd.{zip2_splat}
use Rattle.lexical_core.proofs.LaneRuns.{masked}
use Rattle.respell.specs.inner.RunBytes.{stands_so}
use Rattle.respell.proofs.run_spelling.StandingByteClass.others_of_eight.Goals as goal

pub returns : goal.returns
returns c =
    let v = c.args.bytes in
    let long = c.fits-bytes.0 in
    masked _ (λ byte. not (stands_so byte)) v _ (omega arith) c.fits-bytes.1 (zip2_splat _ v 8 62 long) refl
