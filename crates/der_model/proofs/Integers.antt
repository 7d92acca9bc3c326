-- The two's complement of a number determines it, and is as short as it can be.
use Rattle.std.proofs.Common.{◌≡◌, ℕ, suc, ◌≤◌, ◌<◌, Bool, true, false, List, [], ◌∷◌, refl, sym, ap, ◌∙◌, arith, ltb, ◌⊎◌, inl, inr}
use Rattle.std.specs.Prelude.{nat_lt, if◌then◌else◌}
use Rattle.std.specs.Int.Digits.{digits_of, number_from_digits}
use Rattle.std.proofs.lemmas.Bool.Decides.{leb_tells}
use Rattle.std.proofs.lemmas.Int.Digits.{number_digits_of}
use Rattle.der_octets.proofs.Digits.{first_not_zero}
use Rattle.der_model.specs.LeafContents.{with_sign_bit, integer_octets, IsInteger}

number-sign_bit : (ds : List ℕ) → number_from_digits 256 (with_sign_bit ds) ≡ number_from_digits 256 ds
number-sign_bit [] = refl
number-sign_bit (d ∷ ds) = go (nat_lt d 128)
  where
    go : (b : Bool) → number_from_digits 256 (if b then d ∷ ds else 0 ∷ d ∷ ds) ≡ number_from_digits 256 (d ∷ ds)
    go true = refl
    go false = refl

number-integer : (n : ℕ) → number_from_digits 256 (integer_octets n) ≡ n
unfolding integer_octets
number-integer n = number-sign_bit (digits_of 256 n) ∙ number_digits_of 256 n (omega arith)

-- the octets of a code have one number
pub integer_same : (m n : ℕ) → integer_octets m ≡ integer_octets n → m ≡ n
integer_same m n e = sym (number-integer m) ∙ (ap (number_from_digits 256) e ∙ number-integer n)

is_integer : (ds : List ℕ) → ((d : ℕ) (more : List ℕ) → ds ≡ d ∷ more → 0 < d) → IsInteger (with_sign_bit ds)
is_integer [] lead = tt
is_integer (d ∷ ds) lead = go (leb_tells (suc d) 128)
  where
    short : (ds : List ℕ) → 0 < d → d < 128 → IsInteger (d ∷ ds)
    short [] some low = tt
    short (e ∷ more) some low = (λ z. absurd (omega arith), λ z. absurd (omega arith))

    go : ((ltb d 128 ≡ true) × (suc d ≤ 128)) ⊎ ((ltb d 128 ≡ false) × (128 < suc d)) → IsInteger (if nat_lt d 128 then d ∷ ds else 0 ∷ d ∷ ds)
    go (inl t) = rw t.0 (short ds (lead d ds refl) t.1)
    go (inr t) = rw t.0 (λ z. omega arith, λ z. absurd (omega arith))

-- a code's number is written with no octet too many
pub integer_is : (n : ℕ) → IsInteger (integer_octets n)
unfolding integer_octets
integer_is n = is_integer (digits_of 256 n) (λ d more is. first_not_zero n d more is)
