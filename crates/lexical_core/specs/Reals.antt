-- The contents of a REAL in its decimal form: X.690 §8.5.8 and §11.3.2, with the numbers of ISO 6093, NR3.
use Rattle.std.specs.Prelude.{◌≡◌, ◌≢◌, ℕ, ◌+◌, ◌*◌, ◌^◌, ◌⊎◌, Bool, true, false, List, [], ◌∷◌, ◌++◌, slice_index, ℤ, pos, negsuc, if◌then◌else◌, ◌==◌}
use Rattle.std.specs.Fmt.{decimal}
use Rattle.std.specs.Str.Parse.{AllDigits, digits_value}
use Rattle.lexical_core.specs.Decimals.{Number, IsNumber, EndsInNoZero}

-- the exponent: `+0`, or a number with no plus sign and no leading zero
abbrev pub exponent_text : ℤ → List ℕ
exponent_text (pos n) = if n == 0 then 43 ∷ 48 ∷ [] else decimal n
exponent_text (negsuc n) = 45 ∷ decimal (n + 1)

abbrev pub minus_text : Bool → List ℕ
minus_text true = 45 ∷ []
minus_text false = []

-- digits, `.E` and the exponent
abbrev pub real_body : List ℕ → ℤ → List ℕ
real_body digits exponent = digits ++ (46 ∷ 69 ∷ exponent_text exponent)

-- digits with no 0 at their start or end
pub record AreRealDigits (digits : List ℕ) : Type 0 where
  pub are_digits : AllDigits 10 digits
  pub starts : slice_index digits 0 ≢ 48
  pub ends : EndsInNoZero digits

-- n is the number of this sign, whose size is the value times ten to the exponent
abbrev pub IsRealNumber : Bool → ℕ → ℤ → Number → Type 0
IsRealNumber negative value (pos e) n = IsNumber negative (value * 10 ^ e) 0 n
IsRealNumber negative value (negsuc e) n = IsNumber negative value (e + 1) n

-- the bytes after the form and the sign are those of this number
abbrev pub IsRealBody : Bool → List ℕ → Number → Type 0
IsRealBody negative body n =
    (digits : List ℕ) × (exponent : ℤ) × AreRealDigits digits × IsRealNumber negative (digits_value 10 digits) exponent n × (body ≡ real_body digits exponent)

-- the contents of the REAL of this number: none for zero, and else the form 03, a minus where it is negative, and the body
abbrev pub IsReal : List ℕ → Number → Type 0
IsReal contents n = ((contents ≡ []) × (n.whole ≡ pos 0))
    ⊎ ((negative : Bool) × (body : List ℕ) × IsRealBody negative body n × (contents ≡ 3 ∷ (minus_text negative ++ body)))
