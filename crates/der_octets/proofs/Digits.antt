-- Octets of which the first is not 0 are the digits of the number that they make, in base 256.
use Rattle.std.proofs.Common.{◌≡◌, ℕ, zero, suc, ◌+◌, ◌*◌, ◌/◌, ◌%◌, ◌≤◌, ◌<◌, List, [], ◌∷◌, ◌++◌, length, get_or, sym, ap, ◌∙◌, arith, append_assoc, append-nil}
use Rattle.std.specs.Int.Digits.{digits_of, number_from_digits_after, number_from_digits, AllBelowBase}
use Rattle.std.proofs.lemmas.Int.Digits.{digits_of_step, length-digits_of_step, first_digits_of}

pub some-digits_of : (base n : ℕ) → 2 ≤ base → 0 < n → 0 < length (digits_of base n)
some-digits_of base n two some = omega (arith, length-digits_of_step base n two some)

-- a number below the base is its own digit
pub digits_of_digit : (base n : ℕ) → 2 ≤ base → 0 < n → n / base ≡ 0 → n % base ≡ n → digits_of base n ≡ n ∷ []
digits_of_digit base n two some whole rest = digits_of_step base n two some ∙ (ap (λ z. digits_of base z ++ n % base ∷ []) whole ∙ ap (λ z. z ∷ []) rest)

-- one more digit
digits_of_more : (n d : ℕ) → 0 < n → d < 256 → digits_of 256 (n * 256 + d) ≡ digits_of 256 n ++ d ∷ []
digits_of_more n d some low =
    let whole : (n * 256 + d) / 256 ≡ n = omega arith in
    let rest : (n * 256 + d) % 256 ≡ d = omega arith in
    digits_of_step 256 (n * 256 + d) (omega arith) (omega arith) ∙ (ap (λ z. digits_of 256 z ++ (n * 256 + d) % 256 ∷ []) whole ∙ ap (λ z. digits_of 256 n ++ z ∷ []) rest)

-- more digits behind a number that is not 0
digits_of_after : (ds : List ℕ) (n : ℕ) → 0 < n → AllBelowBase 256 ds → digits_of 256 (number_from_digits_after 256 n ds) ≡ digits_of 256 n ++ ds
digits_of_after [] n some below = sym (append-nil (digits_of 256 n))
digits_of_after (d ∷ ds) n some (low, below) =
    digits_of_after ds (n * 256 + d) (omega arith) below ∙ (ap (λ z. z ++ ds) (digits_of_more n d some low) ∙ append_assoc (digits_of 256 n) (d ∷ []) ds)

-- octets that begin with some that is not 0 are the digits of the number that they make
pub digits_of_number : (d : ℕ) (ds : List ℕ) → 0 < d → AllBelowBase 256 (d ∷ ds) → digits_of 256 (number_from_digits 256 (d ∷ ds)) ≡ d ∷ ds
digits_of_number d ds some (low, below) =
    let start : 0 * 256 + d ≡ d = omega arith in
    ap (λ z. digits_of 256 (number_from_digits_after 256 z ds)) start
    ∙ (digits_of_after ds d some below ∙ ap (λ z. z ++ ds) (digits_of_digit 256 d (omega arith) some (omega arith) (omega arith)))

-- the first digit is not 0
pub first_not_zero : (n d : ℕ) (ds : List ℕ) → digits_of 256 n ≡ d ∷ ds → 0 < d
first_not_zero zero d ds is = absurd cc
first_not_zero (suc n) d ds is = omega (arith, first_digits_of 256 (suc n) (omega arith) (omega arith), ap (λ z. get_or z 0 0) is)
