-- Start tags that a reader takes whole with their attributes: names of ASCII letters, digits, `-`, `.` and `_`, with or without a prefix, and values of ASCII that stand for themselves (XML 1.0 §3.1).
use Rattle.std.specs.Prelude.{◌≡◌, ℕ, Bool, ◌==◌, ◌||◌, ◌<◌, ◌≤◌, true, false, List, ◌∷◌, ◌++◌, length, take, drop, map, encode_utf8_all}
use Rattle.std.specs.List.{list_all, flat_map, prefix_len}
use Rattle.markup.specs.Ascii.{equals_sign}
use Rattle.markup.specs.Chars.{is_space, is_gap}
use Rattle.markup.specs.Attribute.{Attribute, is_attribute, attribute_text}
use Rattle.markup.specs.Token.{StartTag, Start, is_start_tag, token_bytes}
use Rattle.markup.specs.Marks.{tag_limit}
use Rattle.markup.specs.Events.{opening}
use Rattle.markup.specs.Events.{given_attribute as given_by}
use Rattle.markup.specs.PlainTags.{continues_plain, is_plain_name}
use Rattle.markup.specs.PlainStarts.{is_plain_qualified, qualified_text, is_quote, is_literal_of, PlainAttribute, is_plain_attribute, plain_attribute_text}
use Rattle.markup.specs.declared.plain_tag.TagKind.{TagKind}
use Rattle.markup.specs.declared.plain_tag.TagKind.TheVariants.{Empty}
use Rattle.markup.specs.declared.tag.Given.{Given}
use Rattle.markup.specs.declared.tag.Opening.{Opening}
use Rattle.markup.specs.declared.tag.Spelled.{Spelled}

-- the name of these parts
abbrev pub named_by : List ℕ → List ℕ → Spelled
named_by prefix local = record { prefix = prefix; local = local }

-- a byte with which a name goes on
abbrev pub goes_on_name : ℕ → Bool
goes_on_name b = continues_plain b || b == 58

-- The bytes begin with a colon and a plain name.
pub record IsLocalAt (bytes local behind : List ℕ) : Type 0 where
  pub spelled : bytes ≡ 58 ∷ (local ++ behind)
  pub named : is_plain_name local ≡ true

-- The bytes begin with a name whose parts are plain.
pub record IsNameAt (bytes : List ℕ) (name : Spelled) (behind : List ℕ) : Type 0 where
  pub spelled : bytes ≡ qualified_text name ++ behind
  pub named : is_plain_qualified name ≡ true

-- The bytes begin with a value in quotes whose bytes stand for themselves.
pub record IsValueAt (bytes value behind : List ℕ) : Type 0 where
  pub quote : ℕ
  pub spelled : bytes ≡ quote ∷ (value ++ quote ∷ behind)
  pub quoted : is_quote quote ≡ true
  pub literal : list_all (is_literal_of quote) value ≡ true

-- what is behind the white space at the front
abbrev pub past_spaces : List ℕ → List ℕ
past_spaces bytes = drop (prefix_len is_space bytes) bytes

-- The bytes begin with white space that may not be left out.
pub record IsGapAt (bytes behind : List ℕ) : Type 0 where
  pub gap : List ℕ
  pub spelled : bytes ≡ gap ++ behind
  pub is : is_gap gap ≡ true

-- The bytes begin with `=`, round which white space may stand.
pub record IsEqualsAt (bytes behind : List ℕ) : Type 0 where
  pub before : List ℕ
  pub after : List ℕ
  pub spelled : bytes ≡ before ++ equals_sign ∷ (after ++ behind)
  pub before_is : list_all is_space before ≡ true
  pub after_is : list_all is_space after ≡ true

-- The bytes begin with a plain attribute of this name and this value.
pub record IsAttributeAt (bytes : List ℕ) (name : Spelled) (value behind : List ℕ) : Type 0 where
  pub attribute : PlainAttribute
  pub is : is_plain_attribute attribute ≡ true
  pub spelled : bytes ≡ plain_attribute_text attribute ++ behind
  pub named : attribute.name ≡ name
  pub valued : attribute.value ≡ value

-- They begin with none.
abbrev pub BeginsNoAttribute : List ℕ → Type 0
BeginsNoAttribute bytes = (name : Spelled) (value behind : List ℕ) → IsAttributeAt bytes name value behind → ⊥

-- The bytes begin with attributes that give this, and then the rest.
pub record AreGiven (bytes : List ℕ) (given : List Given) (rest : List ℕ) : Type 0 where
  pub attributes : List Attribute
  pub are : list_all is_attribute attributes ≡ true
  pub spelled : bytes ≡ encode_utf8_all (flat_map attribute_text attributes) ++ rest
  pub give : map given_by attributes ≡ given

-- Where the bytes are plain attributes, behind which no other follows, what is left is the last of these.
abbrev pub AreLeft : List ℕ → List ℕ → Type 0
AreLeft bytes left = (attributes : List PlainAttribute) (last : List ℕ) → list_all is_plain_attribute attributes ≡ true → BeginsNoAttribute last → bytes ≡ flat_map plain_attribute_text attributes ++ last
    → (others : List PlainAttribute) × (list_all is_plain_attribute others ≡ true) × (left ≡ flat_map plain_attribute_text others ++ last)

-- it is the tag of an empty element
abbrev pub is_empty_kind : TagKind → Bool
is_empty_kind Empty = true
is_empty_kind _ = false

-- So many bytes at the front of the piece are a start tag that says this.
pub record IsStartAt (piece : List ℕ) (tag : Opening) (count : ℕ) : Type 0 where
  pub start : StartTag
  pub is : is_start_tag start ≡ true
  pub spelled : take count piece ≡ token_bytes (Start start)
  pub says : opening start ≡ tag
  pub some : 0 < count
  pub within : count ≤ length piece
  pub short : count ≤ tag_limit
