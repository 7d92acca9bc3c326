-- The texts of octets: XML Schema part 2 §3.2.16, with the alphabet and the padding of RFC 4648 §4. Nothing is cut off: that section
-- itself lets only a character whose unused bits are zero stand before the padding.
use Rattle.std.specs.Prelude.{◌≡◌, ℕ, not, ◌==◌, List, filter}
use Rattle.base64.specs.GeneralPurpose.{encode_of, IsBytes}
use Rattle.base64.specs.Engines.{standard}

-- the text without its spaces
abbrev pub without_spaces : List ℕ → List ℕ
without_spaces text = filter (λ c. not (c == 32)) text

-- the collapsed text, whose spaces are single ones between characters, is one of these octets
abbrev pub IsBinaryText : List ℕ → List ℕ → Type 0
IsBinaryText octets text = IsBytes octets × (without_spaces text ≡ encode_of standard octets)

-- the one canonical text of octets: §3.2.16, with no spaces
abbrev pub binary_text : List ℕ → List ℕ
binary_text octets = encode_of standard octets
