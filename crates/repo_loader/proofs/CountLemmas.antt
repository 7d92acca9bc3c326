-- Bounds of a number that is read digit by digit.
use Rattle.std.proofs.Common.{◌≡◌, ℕ, suc, ◌+◌, ◌*◌, ◌^◌, ◌≤◌, ◌<◌, ap, arith}
use Rattle.std.proofs.Common.{true, ◌-◌}
use Rattle.std.specs.Char.{digit_value, is_ascii_digit}
use Rattle.std.specs.Int.{is_in_range}
use Rattle.std.proofs.lemmas.Str.{digit_value_digit}
use Rattle.std.proofs.lemmas.Bool.Decides.{nat_tests}
use Rattle.std.proofs.Math.Nat.{pow-suc, mul-le-mul_left}
use Rattle.lexical_core.proofs.Scales.{pow_positive}

-- one digit more leaves room for one less
pub one_digit : (most v d k : ℕ) → (v + 1) * 10 ^ suc k ≤ 10 ^ most → d < 10 → (v * 10 + d + 1) * 10 ^ k ≤ 10 ^ most
one_digit most v d k h l =
    let less : v * 10 + d + 1 ≤ v * 10 + 10 = omega (arith, l) in
    let up = mul-le-mul_left (10 ^ k) less in
    let power = ap (λ x. (v + 1) * x) (pow-suc 10 k) in
    omega (arith, up, power, h)

-- so it is no greater than so many digits say
pub fits_digits : (most v k : ℕ) → (v + 1) * 10 ^ k ≤ 10 ^ most → v < 10 ^ most
fits_digits most v k h =
    let some : 1 ≤ 10 ^ k = pow_positive k in
    let up = mul-le-mul_left (v + 1) some in
    omega (arith, up, h)

-- a digit's test and value
pub digit_at_test : (c n : ℕ) → is_ascii_digit c ≡ true → n ≡ c - 48 → (n < 10) × (n ≡ digit_value c)
digit_at_test c n h e =
    let r = in_range c h in
    let v = digit_value_digit c r in
    (omega (arith, r.0, r.1, e), omega (arith, v, e, r.0))
  where
    in_range : (c : ℕ) → is_in_range 48 57 c ≡ true → (48 ≤ c) × (c ≤ 57)
    in_range c h = (grind (arith, nat_tests), grind (arith, nat_tests))
