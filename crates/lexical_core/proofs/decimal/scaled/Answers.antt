use Rattle.std.proofs.Common.{◌≡◌, ◌^◌, ◌≤◌, ◌*ℤ◌, arith, ap, ◌∙◌}
use Rattle.std.proofs.lemmas.Int.{to_z-of_z}
use Rattle.std.specs.Int.RustNames.{unsigned_abs}
use mir.Syntax.{w64}
use Rattle.lexical_core.proofs.Signed.{product_fits, product_is}
use Rattle.lexical_core.proofs.Scales.{pow_le}
use Rattle.lexical_core.proofs.decimal.scaled.Goals as goal
use Rattle.lexical_core.proofs.decimal.scaled.Goals.{After-power}

whole_is : (c : After-power) → c.from.result ≡ c.args.whole
whole_is c = c.from.ensures ∙ to_z-of_z w64 c.args.whole c.ranges.whole

whole_small : (c : After-power) → unsigned_abs c.from.result ≤ 10 ^ 18
whole_small c = let same = ap unsigned_abs (whole_is c) in let small = c.requires.small in omega arith

power_small : (c : After-power) → unsigned_abs c.power.result ≤ 10 ^ 18
power_small c = let same = ap unsigned_abs c.power.ensures in let small = pow_le c.args.exponent 18 c.requires.short in omega arith

pub overflow_mul-result : goal.overflow_mul-result
overflow_mul-result c = product_fits c.from.result c.power.result (record { sfits = c.from.type_inv }) (record { sfits = c.power.type_inv }) (whole_small c) (power_small c)

pub returns : goal.returns
returns c =
    product_is c.from.result c.power.result (record { sfits = c.from.type_inv }) (record { sfits = c.power.type_inv }) (whole_small c) (power_small c)
    ∙ (ap (λ n. n *ℤ c.power.result) (whole_is c) ∙ ap (λ n. c.args.whole *ℤ n) c.power.ensures)
