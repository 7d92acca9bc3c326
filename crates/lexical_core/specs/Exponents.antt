-- The exponents that the reader of REAL contents keeps.
use Rattle.std.specs.Prelude.{◌≢◌, ℕ, ◌-◌, ◌<◌, ◌≤◌, List, [], ◌∷◌, length, slice_index, ℤ, pos, negsuc, if◌then◌else◌, ◌==◌}
use Rattle.std.specs.Char.{digit_value}
use Rattle.std.specs.Str.Parse.{AllDigits}
use Rattle.lexical_core.specs.Decimals.{EndsInNoZero}
use Rattle.lexical_core.specs.declared.real.Exponent.{Exponent}
use Rattle.lexical_core.specs.declared.real.Exponent.TheVariants.{Up, Down}

abbrev pub exponent_value : Exponent → ℤ
exponent_value (Up n) = pos n
exponent_value (Down n) = negsuc (n - 1)

abbrev pub IsSmall : Exponent → Type 0
IsSmall (Up n) = n ≤ 18
IsSmall (Down n) = (0 < n) × (n ≤ 18)

-- digits that neither begin nor end with 0
abbrev pub AreRealEnds : List ℕ → Type 0
AreRealEnds digits = (slice_index digits 0 ≢ 48) × EndsInNoZero digits

-- the bytes begin with no digit
abbrev pub NoDigit : List ℕ → Type 0
NoDigit [] = Unit {0}
NoDigit (c ∷ cs) = 10 ≤ digit_value c

-- digits, at least one, and the first is not 0
pub record IsPositiveNumeral (digits : List ℕ) : Type 0 where
  pub are_digits : AllDigits 10 digits
  pub some : 0 < length digits
  pub starts : slice_index digits 0 ≢ 48

-- the exponent of a number of this scale with these zeros at its end
abbrev pub exponent_for : ℕ → ℕ → ℤ
exponent_for scale zeros = if scale == 0 then pos zeros else negsuc (scale - 1)
