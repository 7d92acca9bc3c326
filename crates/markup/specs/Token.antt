-- The tokens of an XML text: what each is made of, and the characters that spell it.
use Rattle.std.specs.Prelude.{ℕ, Bool, ◌==◌, ◌&&◌, not, true, false, List, [], ◌∷◌, ◌++◌, codes, if◌then◌else◌, encode_utf8_all}
use Rattle.std.specs.List.{list_all, flat_map}
use Rattle.std.specs.Char.{to_ascii_lowercase}
use Rattle.markup.specs.Ascii.{line_feed, carriage_return, hyphen_minus, greater_than, question_mark}
use Rattle.markup.specs.Chars.{is_xml_char, is_space}
use Rattle.markup.specs.Name.{Name, is_part, is_name, name_text}
use Rattle.markup.specs.Reference.{Reference, reference_text}
use Rattle.markup.specs.Attribute.{Attribute, is_attribute, attribute_text}

-- a start tag, or the tag of an empty element (XML 1.0 §3.1, STag, EmptyElemTag)
pub record StartTag : Type 0 where
  pub name : Name
  pub attributes : List Attribute
  pub gap : List ℕ
  pub is_empty : Bool

-- its parts are what they should be
abbrev pub is_start_tag : StartTag → Bool
is_start_tag t = is_name t.name && list_all is_attribute t.attributes && list_all is_space t.gap

-- the tag as it is written
abbrev pub start_tag_text : StartTag → List ℕ
start_tag_text t = codes "<" ++ name_text t.name ++ flat_map attribute_text t.attributes ++ t.gap ++ (if t.is_empty then codes "/>" else codes ">")

-- A comment's text has no two hyphens together and none at its end (XML 1.0 §2.5, Comment).
abbrev pub is_comment : List ℕ → Bool
is_comment [] = true
is_comment (c ∷ []) = is_xml_char c && not (c == hyphen_minus)
is_comment (c ∷ d ∷ cs) = is_xml_char c && not (c == hyphen_minus && d == hyphen_minus) && is_comment (d ∷ cs)

-- An instruction's text does not hold `?>` (XML 1.0 §2.6, PI).
abbrev pub is_instruction_text : List ℕ → Bool
is_instruction_text [] = true
is_instruction_text (c ∷ []) = is_xml_char c
is_instruction_text (c ∷ d ∷ cs) = is_xml_char c && not (c == question_mark && d == greater_than) && is_instruction_text (d ∷ cs)

-- the letters x, m, l, each in either case
abbrev pub is_xml_word : List ℕ → Bool
is_xml_word (a ∷ b ∷ c ∷ []) = to_ascii_lowercase a == 120 && to_ascii_lowercase b == 109 && to_ascii_lowercase c == 108
is_xml_word _ = false

-- A target is no `xml` and has no colon; a text begins with white space (XML 1.0 §2.6, PI, PITarget; Namespaces §7).
abbrev pub is_instruction : List ℕ → List ℕ → Bool
is_instruction target [] = is_part target && not (is_xml_word target)
is_instruction target (c ∷ text) = is_part target && not (is_xml_word target) && is_space c && is_instruction_text (c ∷ text)

-- the three ways to end a line (XML 1.0 §2.11)
pub data Line : Type 0 where
  Lf : Line
  Cr : Line
  CrLf : Line

-- the line end as it is written
abbrev pub line_text : Line → List ℕ
line_text Lf = line_feed ∷ []
line_text Cr = carriage_return ∷ []
line_text CrLf = carriage_return ∷ line_feed ∷ []

-- a token, as what it is made of
pub data Token : Type 0 where
  Mark : Token
  Declaration : (fields : List Attribute) (gap : List ℕ) → Token
  Comment : (text : List ℕ) → Token
  Instruction : (target text : List ℕ) → Token
  Opener : Token
  Closer : Token
  TypeDeclaration : Token
  Start : (tag : StartTag) → Token
  End : (name : Name) (gap : List ℕ) → Token
  Refer : (reference : Reference) → Token
  LineEnd : (line : Line) → Token
  Character : (char : ℕ) → Token

-- the characters that spell a token
abbrev pub token_text : Token → List ℕ
token_text Mark = 0xFEFF ∷ []
token_text (Declaration fields gap) = codes "<?xml" ++ flat_map attribute_text fields ++ gap ++ codes "?>"
token_text (Comment text) = codes "<!--" ++ text ++ codes "-->"
token_text (Instruction target text) = codes "<?" ++ target ++ text ++ codes "?>"
token_text Opener = codes "<![CDATA["
token_text Closer = codes "]]>"
token_text TypeDeclaration = codes "<!DOCTYPE"
token_text (Start tag) = start_tag_text tag
token_text (End name gap) = codes "</" ++ name_text name ++ gap ++ codes ">"
token_text (Refer reference) = reference_text reference
token_text (LineEnd line) = line_text line
token_text (Character c) = c ∷ []

-- its bytes, in UTF-8
abbrev pub token_bytes : Token → List ℕ
token_bytes t = encode_utf8_all (token_text t)
