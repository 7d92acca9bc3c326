use Rattle.std.proofs.Common.{◌≤◌, ◌^◌, refl, arith}
use Rattle.std.proofs.Math.Nat.{pow-le-pow_right}
use Rattle.facets.proofs.digits.has_total.Goals as goal

pub returns-then-total-ge18 : goal.returns-then-total-ge18
returns-then-total-ge18 c =
    let grown : 10 ^ 18 ≤ 10 ^ c.args.total = pow-le-pow_right {n = 10} (omega arith) {i = 18} {j = c.args.total} c.if-total-ge18.true in
    (λ h. omega (arith, grown, c.requires), λ h. refl)
