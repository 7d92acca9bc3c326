-- References to characters (XML 1.0 §4.1, §4.6).
use Rattle.std.specs.Prelude.{ℕ, Bool, ◌==◌, ◌||◌, ◌&&◌, ◌+◌, ◌*◌, true, not, List, [], ◌∷◌, ◌++◌, length, codes, if◌then◌else◌}
use Rattle.std.specs.List.{list_all}
use Rattle.std.specs.Char.{is_digit, digit_value}
use Rattle.markup.specs.Ascii.{quotation_mark, ampersand, apostrophe, less_than, greater_than}
use Rattle.markup.specs.Chars.{is_xml_char}

-- the entities that need no declaration (XML 1.0 §4.6)
pub data Entity : Type 0 where
  Ampersand : Entity
  Less : Entity
  Greater : Entity
  Apostrophe : Entity
  Quote : Entity

-- the entity's name
abbrev pub entity_name : Entity → List ℕ
entity_name Ampersand = codes "amp"
entity_name Less = codes "lt"
entity_name Greater = codes "gt"
entity_name Apostrophe = codes "apos"
entity_name Quote = codes "quot"

-- the character that the entity stands for
abbrev pub entity_char : Entity → ℕ
entity_char Ampersand = ampersand
entity_char Less = less_than
entity_char Greater = greater_than
entity_char Apostrophe = apostrophe
entity_char Quote = quotation_mark

-- a reference to an entity, or to a character by its number in digits of radix 10 or 16 (XML 1.0 §4.1, EntityRef, CharRef)
pub data Reference : Type 0 where
  Named : (entity : Entity) → Reference
  Numbered : (radix : ℕ) (digits : List ℕ) → Reference

-- the number that the digits spell, behind the number of the digits before them
abbrev pub number : ℕ → ℕ → List ℕ → ℕ
number radix n [] = n
number radix n (d ∷ ds) = number radix (n * radix + digit_value d) ds

-- a number has at least one digit and is that of an XML character (XML 1.0 §4.1, Legal Character)
abbrev pub is_reference : Reference → Bool
is_reference (Named entity) = true
is_reference (Numbered radix digits) = (radix == 10 || radix == 16) && not (length digits == 0) && list_all (λ d. is_digit d radix) digits && is_xml_char (number radix 0 digits)

-- the character that the reference gives
abbrev pub referred_character : Reference → ℕ
referred_character (Named entity) = entity_char entity
referred_character (Numbered radix digits) = number radix 0 digits

-- the reference as it is written
abbrev pub reference_text : Reference → List ℕ
reference_text (Named entity) = codes "&" ++ entity_name entity ++ codes ";"
reference_text (Numbered radix digits) = codes "&#" ++ (if radix == 16 then codes "x" else []) ++ digits ++ codes ";"
