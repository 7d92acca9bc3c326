-- What the reader of decimal texts answers: XML Schema part 2 §3.2.3.1.
use Rattle.std.specs.Prelude.{ℕ, List}
use Rattle.lexical_core.specs.Decimals.{Number, IsDecimal, IsDecimalText, SpellsDecimal}
use Rattle.lexical_core.specs.declared.decimal_text.DecimalText.{DecimalText}
use Rattle.lexical_core.specs.declared.decimal_text.DecimalText.TheVariants.{Value, TooLong, Bad}

-- the answer on a whole text
abbrev pub IsDecimalAnswer : List ℕ → DecimalText → Type 0
IsDecimalAnswer text (Value n) = IsDecimal n × SpellsDecimal text n
IsDecimalAnswer text TooLong = IsDecimalText text × ((n : Number) → IsDecimal n → SpellsDecimal text n → ⊥)
IsDecimalAnswer text Bad = IsDecimalText text → ⊥
