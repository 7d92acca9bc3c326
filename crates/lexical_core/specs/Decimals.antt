-- Decimal numbers and their texts: XML Schema part 2 §3.2.3.
use Rattle.std.specs.Prelude.{◌≡◌, ℕ, ◌+◌, ◌-◌, ◌*◌, ◌^◌, ◌%◌, ◌<◌, ◌≤◌, ◌≢◌, ◌⊎◌, Bool, true, false, List, [], ◌∷◌, ◌++◌, length, slice_index, Option, Some, None, ℤ, pos}
use Rattle.std.proofs.Common.{neg_ℤ}
use Rattle.std.specs.Int.RustNames.{unsigned_abs}
use Rattle.std.specs.Str.Parse.{AllDigits, digits_value}

-- a number: the whole part times ten to the minus scale
pub record Number : Type 0 where
  pub whole : ℤ
  pub scale : ℕ

-- the whole number of this sign and size
abbrev pub signed_number : Bool → ℕ → ℤ
signed_number true size = neg_ℤ (pos size)
signed_number false size = pos size

-- n is the number of this sign whose size is `size` times ten to the minus `scale`: both times ten to both scales are equal
pub record IsNumber (negative : Bool) (size scale : ℕ) (n : Number) : Type 0 where
  pub same_size : unsigned_abs n.whole * 10 ^ scale ≡ size * 10 ^ n.scale
  pub same_sign : n.whole ≡ signed_number negative (unsigned_abs n.whole)

-- a whole part of at most 18 digits, and the least scale that its number has, which is at most 18
pub record IsDecimal (n : Number) : Type 0 where
  pub small : unsigned_abs n.whole < 10 ^ 18
  pub short : n.scale ≤ 18
  pub least : 0 < n.scale → 0 < unsigned_abs n.whole % 10

-- no such whole part and scale make this number
abbrev pub HasNoDecimal : Bool → ℕ → ℕ → Type 0
HasNoDecimal negative size scale = (n : Number) → IsDecimal n → IsNumber negative size scale n → ⊥

-- the parts of a decimal text: §3.2.3.1
pub record DecimalParts : Type 0 where
  pub sign : List ℕ
  pub whole : List ℕ
  pub fraction : Option (List ℕ)

-- the digits after the point
abbrev pub fraction_digits : Option (List ℕ) → List ℕ
fraction_digits None = []
fraction_digits (Some digits) = digits

-- the point and the digits after it, where there is one
abbrev pub point_text : Option (List ℕ) → List ℕ
point_text None = []
point_text (Some digits) = 46 ∷ digits

-- the text that has these parts
abbrev pub decimal_spelling : DecimalParts → List ℕ
decimal_spelling p = p.sign ++ (p.whole ++ point_text p.fraction)

-- a text begins with this sign: none and `+` stand for not negative, `-` for negative
abbrev pub IsSign : Bool → List ℕ → Type 0
IsSign false sign = (sign ≡ []) ⊎ (sign ≡ 43 ∷ [])
IsSign true sign = sign ≡ 45 ∷ []

-- the parts are those of a decimal text: a sign or none, digits with a point or none, and at least one digit
pub record AreParts (negative : Bool) (p : DecimalParts) : Type 0 where
  pub sign : IsSign negative p.sign
  pub whole : AllDigits 10 p.whole
  pub fraction : AllDigits 10 (fraction_digits p.fraction)
  pub some : 0 < length p.whole + length (fraction_digits p.fraction)

-- the text is a decimal text
abbrev pub IsDecimalText : List ℕ → Type 0
IsDecimalText text = (negative : Bool) × (p : DecimalParts) × AreParts negative p × (text ≡ decimal_spelling p)

-- the parts spell this number: the value of all digits, with as many after the point as stand there
pub record PartsSpell (negative : Bool) (p : DecimalParts) (n : Number) : Type 0 where
  pub parts : AreParts negative p
  pub number : IsNumber negative (digits_value 10 (p.whole ++ fraction_digits p.fraction)) (length (fraction_digits p.fraction)) n

-- the text is a decimal text of this number
abbrev pub SpellsDecimal : List ℕ → Number → Type 0
SpellsDecimal text n = (negative : Bool) × (p : DecimalParts) × PartsSpell negative p n × (text ≡ decimal_spelling p)

-- the digits do not end in 0
abbrev pub EndsInNoZero : List ℕ → Type 0
EndsInNoZero digits = (0 < length digits) × (slice_index digits (length digits - 1) ≢ 48)

-- the point stands only before digits, and these do not end in 0
abbrev pub IsShortFraction : Option (List ℕ) → Type 0
IsShortFraction None = Unit {0}
IsShortFraction (Some digits) = EndsInNoZero digits

-- the canonical form: §3.2.3.2, but with no point where the number is whole
pub record IsCanonicalForm (p : DecimalParts) (n : Number) : Type 0 where
  pub no_plus : p.sign ≢ 43 ∷ []
  pub no_minus_zero : n.whole ≡ pos 0 → p.sign ≡ []
  pub some_whole : 0 < length p.whole
  pub no_leading_zero : slice_index p.whole 0 ≡ 48 → length p.whole ≡ 1
  pub short_fraction : IsShortFraction p.fraction

-- the text is the canonical text of this number
abbrev pub IsCanonicalText : List ℕ → Number → Type 0
IsCanonicalText text n = (negative : Bool) × (p : DecimalParts) × PartsSpell negative p n × IsCanonicalForm p n × (text ≡ decimal_spelling p)
