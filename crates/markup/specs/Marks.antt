-- Which token may stand where, and the list of tokens that a byte list is.
use Rattle.std.specs.Prelude.{◌≡◌, ◌⊎◌, ◌≤◌, ◌^◌, ℕ, Bool, ◌==◌, ◌||◌, ◌&&◌, nat_le, not, true, false, List, [], ◌∷◌, ◌++◌, length, if◌then◌else◌}
use Rattle.std.specs.List.{list_all}
use Rattle.markup.specs.Ascii.{line_feed, carriage_return, ampersand, less_than, greater_than, right_bracket}
use Rattle.markup.specs.Chars.{is_xml_char, is_space}
use Rattle.markup.specs.Name.{is_name}
use Rattle.markup.specs.Reference.{is_reference}
use Rattle.markup.specs.Declaration.{is_declaration}
use Rattle.markup.specs.Token.{Token, Mark, Declaration, Comment, Instruction, Opener, Closer, TypeDeclaration, Start, End, Refer, LineEnd, Character, Line, Lf, Cr, CrLf, is_start_tag, is_comment, is_instruction, token_bytes}

-- Of the tokens before a place, the latest first: does the place lie in a CDATA section? (XML 1.0 §2.7)
abbrev pub in_cdata : List Token → Bool
in_cdata [] = false
in_cdata (Opener ∷ before) = true
in_cdata (Closer ∷ before) = false
in_cdata (_ ∷ before) = in_cdata before

-- the bytes begin with this one
abbrev pub begins_with : ℕ → List ℕ → Bool
begins_with b [] = false
begins_with b (c ∷ rest) = c == b

-- CR LF is one line end, so a CR alone is one only where no LF follows (XML 1.0 §2.11).
abbrev pub is_line_end : Line → List ℕ → Bool
is_line_end Cr rest = not (begins_with line_feed rest)
is_line_end Lf rest = true
is_line_end CrLf rest = true

-- The bytes after a `]` show that it begins no `]]>` (XML 1.0 §2.7, CDEnd).
abbrev pub shows_no_closer : List ℕ → Bool
shows_no_closer [] = false
shows_no_closer (b ∷ []) = not (b == right_bracket)
shows_no_closer (b ∷ c ∷ rest) = not (b == right_bracket && c == greater_than)

-- Is the token one that may stand in a CDATA section, before these bytes? (XML 1.0 §2.7, CData)
abbrev pub stands_in_cdata : Token → List ℕ → Bool
stands_in_cdata Closer rest = true
stands_in_cdata (LineEnd line) rest = is_line_end line rest
stands_in_cdata (Character c) rest = is_xml_char c && not (c == line_feed) && not (c == carriage_return) && (not (c == right_bracket) || shows_no_closer rest)
stands_in_cdata _ rest = false

-- Is it one that may stand elsewhere? (XML 1.0 §2.4, CharData, and §3.1, content)
abbrev pub stands_outside : Token → List ℕ → Bool
stands_outside Mark rest = false
stands_outside (Declaration fields gap) rest = false
stands_outside (Comment text) rest = is_comment text
stands_outside (Instruction target text) rest = is_instruction target text
stands_outside Opener rest = true
stands_outside Closer rest = false
stands_outside TypeDeclaration rest = true
stands_outside (Start tag) rest = is_start_tag tag
stands_outside (End name gap) rest = is_name name && list_all is_space gap
stands_outside (Refer reference) rest = is_reference reference
stands_outside (LineEnd line) rest = is_line_end line rest
stands_outside (Character c) rest = is_xml_char c && not (c == line_feed) && not (c == carriage_return) && not (c == less_than) && not (c == ampersand)

-- Nothing stands before, or the byte order mark alone.
abbrev pub is_first : List Token → Bool
is_first [] = true
is_first (Mark ∷ []) = true
is_first _ = false

-- Is it a token that may stand behind these and before the rest, whatever its length?
-- The byte order mark stands at the start of the input, where it is no character (XML 1.0 §4.3.3), and the declaration first or behind it (§2.8).
abbrev pub stands : List Token → Token → List ℕ → Bool
stands before Mark rest = length before == 0
stands before (Declaration fields gap) rest = is_first before && is_declaration fields && list_all is_space gap
stands before (Character c) rest = if in_cdata before then stands_in_cdata (Character c) rest else stands_outside (Character c) rest && not (length before == 0 && c == 0xFEFF)
stands before t rest = if in_cdata before then stands_in_cdata t rest else stands_outside t rest

-- a token in its place: the bytes are the token's and then those after it
pub record Cell (before : List Token) (t : Token) (bytes after : List ℕ) : Type 0 where
  pub spelled : bytes ≡ token_bytes t ++ after
  pub is : stands before t after ≡ true

-- A start or end tag has no more bytes than the limit.
abbrev pub is_short : ℕ → Token → Bool
is_short limit (Start tag) = nat_le (length (token_bytes (Start tag))) limit
is_short limit (End name gap) = nat_le (length (token_bytes (End name gap))) limit
is_short limit _ = true

-- The bytes, behind the tokens before (the latest first), are these tokens and then the rest.
abbrev pub Front : ℕ → List Token → List ℕ → List Token → List ℕ → Type 0
Front limit before bytes [] rest = bytes ≡ rest
Front limit before bytes (t ∷ ts) rest = (after : List ℕ) × Cell before t bytes after × (is_short limit t ≡ true) × Front limit (t ∷ before) after ts rest

-- the greatest length in bytes of a tag of XML
abbrev pub tag_limit : ℕ
tag_limit = 1048576

-- as many bytes as a reader takes of an input at most: with this limit a tag may have any length
abbrev pub no_limit : ℕ
no_limit = 2 ^ 40

-- a limit that a reader may have
abbrev pub IsLimit : ℕ → Type 0
IsLimit limit = (tag_limit ≤ limit) × (limit ≤ no_limit)

-- The bytes are these tokens.
abbrev pub Marks : List ℕ → List Token → Type 0
Marks bytes tokens = Front tag_limit [] bytes tokens []

-- At one place at most one token stands, also in a CDATA section.
abbrev pub OneToken : Type 0
OneToken = (before : List Token) (t u : Token) (bytes x y : List ℕ) → Cell before t bytes x → Cell before u bytes y → (t ≡ u) × (x ≡ y)

-- one list of tokens begins with the other
abbrev pub Agree : List Token → List Token → Type 0
Agree ts us = ((more : List Token) × (us ≡ ts ++ more)) ⊎ ((more : List Token) × (ts ≡ us ++ more))

-- Two lists of tokens from the front of the same bytes agree as far as both go.
abbrev pub FrontsAgree : Type 0
FrontsAgree = (limit : ℕ) (bytes : List ℕ) (ts us : List Token) (x y : List ℕ) → Front limit [] bytes ts x → Front limit [] bytes us y → Agree ts us

-- The bytes are at most one list of tokens.
abbrev pub OneMarking : Type 0
OneMarking = (bytes : List ℕ) (ts us : List Token) → Marks bytes ts → Marks bytes us → ts ≡ us
