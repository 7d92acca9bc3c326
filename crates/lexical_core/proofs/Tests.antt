-- Small facts on tests and numbers.
use Rattle.std.proofs.Common.{◌≡◌, ◌==◌, ◌||◌, ℕ, suc, ◌<◌, ◌≤◌, ◌⊎◌, inl, inr, Bool, true, false, refl, arith}
use Rattle.std.specs.Prelude.{IsTrue, nat_lt}
use Rattle.std.proofs.lemmas.Bool.Decides.{nat_tests}

-- ---- one test or another

pub or_false : (a : Bool) → (a || false) ≡ a
or_false true = refl
or_false false = refl

pub or_true : (a : Bool) → (a || true) ≡ true
or_true true = refl
or_true false = refl

pub either : (a b : Bool) → IsTrue (a || b) → IsTrue a ⊎ IsTrue b
either true b t = inl refl
either false b t = inr t

-- ---- numbers

pub suc_not_zero : (n : ℕ) → (suc n == 0) ≡ false
suc_not_zero n = grind (arith, nat_tests)

pub suc_never_zero : (n : ℕ) → (suc n == 0) ≡ true → ⊥
suc_never_zero n e = grind (arith, nat_tests)

pub zero_told : (n : ℕ) → (n == 0) ≡ true → n ≡ 0
zero_told n e = grind (arith, nat_tests)

pub same_number : (n : ℕ) → (n == n) ≡ true
same_number n = grind (arith, nat_tests)

pub compared : (k j : ℕ) → (k < j) ⊎ ((k ≡ j) ⊎ (j < k))
compared k j = grind arith

-- the octets below 80, and those from there on
pub below_128 : (n : ℕ) → n < 128 → nat_lt n 128 ≡ true
below_128 n l = grind (arith, nat_tests)

pub from_128 : (n : ℕ) → 128 ≤ n → nat_lt n 128 ≡ false
from_128 n l = grind (arith, nat_tests)
