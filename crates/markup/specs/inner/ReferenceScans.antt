-- What a character makes of a reference that is begun.
use Rattle.std.specs.Prelude.{ℕ, ◌==◌, ◌&&◌, ◌+◌, ◌*◌, nat_le, Option, Some, None, if◌then◌else◌}
use Rattle.std.specs.Char.{is_digit, digit_value}
use Rattle.markup.specs.Chars.{is_xml_char}
use Rattle.markup.specs.inner.Words.{letter_of}
use Rattle.markup.specs.declared.word.Word.{Word}
use Rattle.markup.specs.declared.word.Word.TheVariants.{Ampersand, Less, Greater, Apostrophe, Quote}
use Rattle.markup.specs.declared.reference.ReferenceScan.{ReferenceScan}
use Rattle.markup.specs.declared.reference.ReferenceScan.TheVariants.{Begun, LetterA, Name, Hash, HashX, Decimal, Hexadecimal}
use Rattle.markup.specs.declared.reference.ReferenceTurn.{ReferenceTurn}
use Rattle.markup.specs.declared.reference.ReferenceTurn.TheVariants.{Continues, Gives, Breaks}

-- the number with one more digit, no more than the last code point
abbrev pub digit_step : ℕ → ℕ → ℕ → Option ℕ
digit_step radix n c = if is_digit c radix && nat_le (n * radix + digit_value c) 0x10_FFFF then Some (n * radix + digit_value c) else None

-- the XML character of this number
abbrev pub numbered_char : ℕ → Option ℕ
numbered_char n = if is_xml_char n then Some n else None

-- the character of an entity
abbrev pub entity_char_of : Word → ℕ
entity_char_of Less = 60
entity_char_of Greater = 62
entity_char_of Apostrophe = 39
entity_char_of Quote = 34
entity_char_of _ = 38

-- behind a letter of a name, and behind its last one
abbrev pub letter_step : Word → ℕ → ℕ → Option ℕ → ReferenceTurn
letter_step w at c None = if c == 59 then Gives (entity_char_of w) else Breaks
letter_step w at c (Some letter) = if c == letter then Continues (Name w (at + 1)) else Breaks

-- in a name
abbrev pub word_step : Word → ℕ → ℕ → ReferenceTurn
word_step w at c = letter_step w at c (letter_of w at)

-- behind a number
abbrev pub gives : Option ℕ → ReferenceTurn
gives None = Breaks
gives (Some c) = Gives c

-- behind the digits
abbrev pub digits_step : ℕ → ℕ → ReferenceTurn
digits_step n c = if c == 59 then gives (numbered_char n) else Breaks

-- the first digit
abbrev pub first_digit : (ℕ → ReferenceScan) → Option ℕ → ReferenceTurn
first_digit scan None = Breaks
first_digit scan (Some n) = Continues (scan n)

-- one more digit, or what stands behind the digits
abbrev pub more_digits : (ℕ → ReferenceScan) → ℕ → ℕ → Option ℕ → ReferenceTurn
more_digits scan n c None = digits_step n c
more_digits scan n c (Some m) = Continues (scan m)

-- what a character makes of a reference
abbrev pub reference_step : ReferenceScan → ℕ → ReferenceTurn
reference_step Begun c = if c == 97 then Continues LetterA else (if c == 108 then Continues (Name Less 1) else (if c == 103 then Continues (Name Greater 1) else (if c == 113 then Continues (Name Quote 1) else (if c == 35 then Continues Hash else Breaks))))
reference_step LetterA c = if c == 109 then Continues (Name Ampersand 2) else (if c == 112 then Continues (Name Apostrophe 2) else Breaks)
reference_step (Name w at) c = word_step w at c
reference_step Hash c = if c == 120 then Continues HashX else first_digit Decimal (digit_step 10 0 c)
reference_step HashX c = first_digit Hexadecimal (digit_step 16 0 c)
reference_step (Decimal n) c = more_digits Decimal n c (digit_step 10 n c)
reference_step (Hexadecimal n) c = more_digits Hexadecimal n c (digit_step 16 n c)
