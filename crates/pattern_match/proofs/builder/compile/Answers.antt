use Rattle.std.proofs.Common.{arith}
use Rattle.pattern_match.proofs.BegunLemmas.{one_token}
use Rattle.pattern_match.proofs.builder.compile.Goals as goal

pub loop-at-preserved : goal.loop-at-preserved
loop-at-preserved c =
    let t = c.loop-at-test.true in
    let r = one_token c.args.tokens.now c.loop-at.at _ c.loop-at.builder c.take.new.self _ (omega arith) c.in_ok-take.ensures.built c.in_ok-take.ensures.leaves
    c.loop-at.invariant.built c.loop-at.invariant.fed in
    record { built = r.0; fed = r.1 }
