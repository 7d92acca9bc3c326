-- What the reader of decimal texts keeps of the characters that it was given.
use Rattle.std.specs.Prelude.{◌≡◌, ℕ, ◌+◌, ◌*◌, ◌^◌, ◌%◌, ◌<◌, ◌≤◌, ◌⊎◌, min, Bool, true, false, List, [], ◌∷◌, ◌++◌, length}
use Rattle.std.specs.Str.Parse.{AllDigits, digits_value}
use Rattle.lexical_core.specs.Decimals.{IsDecimal, IsNumber, HasNoDecimal, IsSign, IsDecimalText}
use Rattle.lexical_core.specs.declared.digits.Digits.{Digits}
use Rattle.lexical_core.specs.declared.decimal_text.DecimalText.{DecimalText}
use Rattle.lexical_core.specs.declared.decimal_text.DecimalText.TheVariants.{Value, TooLong, Bad}
use Rattle.lexical_core.specs.declared.decimal_text.Stage.{Stage}
use Rattle.lexical_core.specs.declared.decimal_text.Stage.TheVariants.{Start, Whole, Fraction, Failed}
use Rattle.lexical_core.specs.declared.decimal_text.DecimalStep.{DecimalStep}

-- digits of this value, `count` of them after the point: the value is `size` times ten to the zeros at their end after the point
pub record AreDigitsOf (d : Digits) (value count : ℕ) : Type 0 where
  pub size : ℕ
  pub scale : ℕ
  pub zeros : ℕ
  pub value_is : value ≡ size * 10 ^ zeros
  pub count_is : count ≡ scale + zeros
  pub least : 0 < scale → 0 < size % 10
  pub zeros_kept : d.zeros ≡ min zeros 19
  pub kept : d.long ≡ false → (d.size ≡ size) × (d.scale ≡ scale)
  pub too_long : d.long ≡ true → (10 ^ 18 ≤ size) ⊎ (18 < scale)

-- the answer by the value of all digits and the number of those after the point
abbrev pub IsDigitsAnswer : Bool → ℕ → ℕ → Bool → DecimalText → Type 0
IsDigitsAnswer negative value count some (Value n) = (some ≡ true) × IsDecimal n × IsNumber negative value count n
IsDigitsAnswer negative value count some TooLong = (some ≡ true) × ((sign : Bool) → HasNoDecimal sign value count)
IsDigitsAnswer negative value count some Bad = some ≡ false

-- a sign and digits
pub record ReadWhole (s : DecimalStep) (text : List ℕ) : Type 0 where
  pub sign : List ℕ
  pub digits : List ℕ
  pub sign_is : IsSign s.negative sign
  pub are_digits : AllDigits 10 digits
  pub spelled : text ≡ sign ++ digits
  pub some : s.digits.some ≡ true → 0 < length digits
  pub none : s.digits.some ≡ false → digits ≡ []
  pub number : AreDigitsOf s.digits (digits_value 10 digits) 0

-- a sign, digits, the point and digits
pub record ReadFraction (s : DecimalStep) (text : List ℕ) : Type 0 where
  pub sign : List ℕ
  pub digits : List ℕ
  pub after : List ℕ
  pub sign_is : IsSign s.negative sign
  pub are_digits : AllDigits 10 digits
  pub are_after : AllDigits 10 after
  pub spelled : text ≡ sign ++ (digits ++ 46 ∷ after)
  pub some : s.digits.some ≡ true → 0 < length digits + length after
  pub none : s.digits.some ≡ false → (digits ≡ []) × (after ≡ [])
  pub number : AreDigitsOf s.digits (digits_value 10 (digits ++ after)) (length after)

-- no decimal text begins so
abbrev pub BeginsNone : List ℕ → Type 0
BeginsNone text = (more : List ℕ) → IsDecimalText (text ++ more) → ⊥

abbrev pub HasReadIn : Stage → DecimalStep → List ℕ → Type 0
HasReadIn Start s text = ReadWhole s text × (text ≡ [])
HasReadIn Whole s text = ReadWhole s text × (0 < length text)
HasReadIn Fraction s text = ReadFraction s text
HasReadIn Failed s text = BeginsNone text

-- the reader was given these characters, since it was made
abbrev pub HasRead : DecimalStep → List ℕ → Type 0
HasRead s text = HasReadIn s.stage s text
