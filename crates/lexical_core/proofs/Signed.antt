-- Signed numbers of 128 bits.
use Rattle.std.proofs.Common.{◌≡◌, ◌^◌, ◌≤◌, ℤ, ◌*ℤ◌, lit<}
use Rattle.std.proofs.lemmas.Int.{to_z-of_z, fits_signed_mul}
use Rattle.std.specs.Int.RustNames.{unsigned_abs, FitsSigned}
use mir.Val.{to_z, of_z}
use mir.Syntax.{w128}

pub product_fits : (a b : ℤ) → FitsSigned w128 a → FitsSigned w128 b → unsigned_abs a ≤ 10 ^ 18 → unsigned_abs b ≤ 10 ^ 18
    → FitsSigned w128 (to_z w128 (of_z w128 a) *ℤ to_z w128 (of_z w128 b))
product_fits a b fa fb sa sb = rw (to_z-of_z w128 a fa, to_z-of_z w128 b fb) (fits_signed_mul w128 a b (10 ^ 18) (10 ^ 18) sa sb (lit< tt))

pub product_is : (a b : ℤ) → FitsSigned w128 a → FitsSigned w128 b → unsigned_abs a ≤ 10 ^ 18 → unsigned_abs b ≤ 10 ^ 18
    → to_z w128 (of_z w128 (to_z w128 (of_z w128 a) *ℤ to_z w128 (of_z w128 b))) ≡ a *ℤ b
product_is a b fa fb sa sb =
    rw (to_z-of_z w128 a fa, to_z-of_z w128 b fb, to_z-of_z w128 (a *ℤ b) (fits_signed_mul w128 a b (10 ^ 18) (10 ^ 18) sa sb (lit< tt)))
