-- Runs of characters that stand by themselves.
use Rattle.std.specs.Prelude.{◌≡◌, ℕ, Bool, ◌+◌, ◌==◌, ◌&&◌, ◌||◌, ◌⊎◌, nat_le, not, true, List, [], ◌∷◌, ◌++◌, length, encode_utf8, encode_utf8_all, if◌then◌else◌}
use Rattle.std.specs.List.{AllByRecursion, list_all, prefix_len}
use Rattle.lexical_core.specs.Characters.{IsXmlChar}
use Rattle.lexical_core.specs.Tree.{Char}
use Rattle.markup.specs.Ascii.{tab, line_feed, carriage_return, ampersand, less_than, greater_than, right_bracket}
use Rattle.markup.specs.Chars.{is_xml_char, is_space}
use Rattle.markup.specs.Events.{Placed}

-- a byte of ASCII that is a character of an element's text, or a line end, wherever a token begins there, whatever stands before it and behind it: from 0x20 to 0x7F but for `<`, `&`, `]` and `>`, a TAB or an LF (XML 1.0 §2.4, §2.7, §2.11)
abbrev pub is_literal : ℕ → Bool
is_literal byte = (nat_le 32 byte && nat_le byte 127 && not (byte == less_than) && not (byte == ampersand) && not (byte == right_bracket) && not (byte == greater_than)) || byte == tab || byte == line_feed

-- the same, and a `>`, which is a character too where it ends no `]]>` (XML 1.0 §2.4)
abbrev pub is_still_literal : ℕ → Bool
is_still_literal byte = (nat_le 32 byte && nat_le byte 127 && not (byte == less_than) && not (byte == ampersand) && not (byte == right_bracket)) || byte == tab || byte == line_feed

-- how many bytes at the front are such characters whatever stands before them: a literal one, and those behind it
abbrev pub literal_front : List ℕ → ℕ
literal_front [] = 0
literal_front (byte ∷ bytes) = if is_literal byte then 1 + prefix_len is_still_literal bytes else 0

-- white space that stands by itself: a CR does not, which an LF may join (XML 1.0 §2.3, S; §2.11)
abbrev pub is_still_space : ℕ → Bool
is_still_space byte = is_space byte && not (byte == carriage_return)

-- a character that is one of an element's text there: such a byte, or a character of several bytes that XML has (XML 1.0 §2.2)
abbrev pub IsLiteral : ℕ → Type 0
IsLiteral c = (is_still_literal c ≡ true) ⊎ ((nat_le 128 c ≡ true) × (is_xml_char c ≡ true))

-- a character that is told in a run: one of these, or a `]`, which is a character by itself outside CDATA sections
abbrev pub IsOfText : ℕ → Type 0
IsOfText c = IsLiteral c ⊎ (c ≡ right_bracket)

-- The bytes are those of so many such characters, which are white space where the bytes are.
pub record IsRun (bytes : List ℕ) (count : ℕ) : Type 0 where
  pub characters : List ℕ
  pub bytes_are : bytes ≡ encode_utf8_all characters
  pub count_is : length characters ≡ count
  pub literal : AllByRecursion IsOfText characters
  pub allowed : AllByRecursion IsXmlChar characters
  pub blank_is : list_all is_space bytes ≡ list_all is_space characters

-- none of them is a `]`: they stand by themselves in a CDATA section too, and in text where the first is no `>` that ends a `]]>`
abbrev pub IsFreeRun : List ℕ → ℕ → Type 0
IsFreeRun bytes count = (run : IsRun bytes count) × AllByRecursion IsLiteral run.characters

-- all of them are
abbrev pub IsBracketRun : List ℕ → ℕ → Type 0
IsBracketRun bytes count = (run : IsRun bytes count) × AllByRecursion (λ c. c ≡ right_bracket) run.characters

-- these characters, the first at the place
abbrev pub characters_from : ℕ → List ℕ → List Placed
characters_from place [] = []
characters_from place (c ∷ cs) = record { place = place; item = Char c } ∷ characters_from (place + length (encode_utf8 c)) cs

-- So many bytes at the front of the piece are a character that XML has.
pub record IsAt (piece : List ℕ) (size : ℕ) : Type 0 where
  pub char : ℕ
  pub rest : List ℕ
  pub joined : piece ≡ encode_utf8 char ++ rest
  pub size_is : length (encode_utf8 char) ≡ size
  pub allowed : is_xml_char char ≡ true

-- And it is one of several bytes.
pub record IsWideAt (piece : List ℕ) (size : ℕ) : Type 0 where
  pub is_at : IsAt piece size
  pub wide : nat_le 128 is_at.char ≡ true
