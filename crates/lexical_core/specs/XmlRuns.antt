-- Runs of whole characters of XML: XML 1.0 §2.2, in UTF-8 (RFC 3629 §3).
use Rattle.std.specs.Prelude.{◌≡◌, ℕ, ◌<◌, Bool, ◌&&◌, ◌||◌, ◌==◌, nat_le, List, ◌++◌, length, encode_utf8, encode_utf8_all}
use Rattle.std.specs.List.{AllByRecursion}
use Rattle.lexical_core.specs.Characters.{IsXmlChar}

-- the bytes are those of so many characters of XML
pub record IsXmlRun (bytes : List ℕ) (count : ℕ) : Type 0 where
  pub chars : List ℕ
  pub spelled : bytes ≡ encode_utf8_all chars
  pub count_is : length chars ≡ count
  pub are : AllByRecursion IsXmlChar chars

-- a byte that is a character of XML by itself
pub record IsPlainXmlByte (byte : ℕ) : Type 0 where
  pub ascii : byte < 128
  pub xml : IsXmlChar byte

-- the same, as a test
abbrev pub is_plain_xml_byte : ℕ → Bool
is_plain_xml_byte byte = (nat_le 32 byte && nat_le byte 127) || (byte == 9) || (byte == 10) || (byte == 13)

-- the piece begins with a character of XML, which has so many bytes
pub record IsCharAt (piece : List ℕ) (size : ℕ) : Type 0 where
  pub char : ℕ
  pub rest : List ℕ
  pub xml : IsXmlChar char
  pub joined : piece ≡ encode_utf8 char ++ rest
  pub size_is : length (encode_utf8 char) ≡ size

-- the piece begins with no whole character of XML
abbrev pub BeginsNoChar : List ℕ → Type 0
BeginsNoChar piece = (c : ℕ) (rest : List ℕ) → IsXmlChar c → piece ≡ encode_utf8 c ++ rest → ⊥
