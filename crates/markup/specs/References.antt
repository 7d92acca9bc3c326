-- References that stand whole at the front of bytes.
use Rattle.std.specs.Prelude.{◌≡◌, ℕ, true, false, List, length, take, reverse, encode_utf8_all, ◌≤◌}
use Rattle.markup.specs.Reference.{Reference, is_reference, referred_character, reference_text}
use Rattle.markup.specs.Events.{Placed}
use Rattle.markup.specs.Faults.{is_outside}
use Rattle.markup.specs.Reading.{IsInTextUnder}
use Rattle.markup.specs.declared.reader.Reader.{Reader}

-- So many bytes at the front of the piece are a reference, which gives this character (XML 1.0 §4.1, §4.6).
pub record IsReferenceAt (piece : List ℕ) (char size : ℕ) : Type 0 where
  pub reference : Reference
  pub is : is_reference reference ≡ true
  pub char_is : char ≡ referred_character reference
  pub spelled : take size piece ≡ encode_utf8_all (reference_text reference)
  pub within : size ≤ length piece

-- Behind whole tokens, outside CDATA sections, a reference may come: an element is open.
pub record MayReferUnder (limit : ℕ) (reader : Reader) (bytes : List ℕ) (told : List Placed) : Type 0 where
  pub before : IsInTextUnder limit reader bytes told
  pub inside : is_outside (reverse before.tokens) ≡ false
