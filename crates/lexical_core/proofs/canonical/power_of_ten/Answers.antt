use Rattle.std.proofs.Common.{◌^◌, ap, ◌∙◌, arith}
use Rattle.lexical_core.proofs.Scales.{pow_positive}
use Rattle.lexical_core.proofs.canonical.power_of_ten.Goals as goal

pub returns-clause-some : goal.returns-clause-some
returns-clause-some c =
    let some = pow_positive c.args.exponent in
    let same = c.pow.ensures ∙ ap (λ k. 10 ^ k) c.from.ensures in
    omega arith
