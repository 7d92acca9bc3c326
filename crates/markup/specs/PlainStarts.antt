-- Start tags that a reader takes whole with their attributes: `<`, a name, each attribute behind white space, and `>` or `/>`, before which white space may stand (XML 1.0 §3.1, STag, EmptyElemTag).
-- A name is a plain one, or two plain ones that one colon joins: of a tag with a prefix, of an attribute with one, and in the declaration of one. What a prefix means is not asked, nor whether it may stand there.
use Rattle.std.specs.Prelude.{ℕ, Bool, ◌==◌, ◌||◌, ◌&&◌, nat_le, not, true, List, [], ◌∷◌, ◌++◌, if◌then◌else◌}
use Rattle.std.specs.List.{list_all, flat_map}
use Rattle.markup.specs.Ascii.{quotation_mark, ampersand, apostrophe, slash, less_than, equals_sign, greater_than}
use Rattle.markup.specs.Chars.{is_space, is_gap}
use Rattle.markup.specs.PlainTags.{is_plain_name, joined_text}
use Rattle.markup.specs.declared.tag.Spelled.{Spelled}

-- a plain name, or none
abbrev pub is_plain_prefix : List ℕ → Bool
is_plain_prefix [] = true
is_plain_prefix (b ∷ more) = is_plain_name (b ∷ more)

-- a name whose parts are plain; without a prefix that is empty (Namespaces in XML 1.0 §4, QName)
abbrev pub is_plain_qualified : Spelled → Bool
is_plain_qualified n = is_plain_prefix n.prefix && is_plain_name n.local

-- the name as it is written
abbrev pub qualified_text : Spelled → List ℕ
qualified_text n = joined_text n.prefix n.local

-- one of the two kinds of quotes (XML 1.0 §2.3, AttValue)
abbrev pub is_quote : ℕ → Bool
is_quote b = b == quotation_mark || b == apostrophe

-- a byte that stands for itself in a value in these quotes, and neither ends it nor begins a reference (XML 1.0 §2.3, AttValue; §3.3.3)
abbrev pub is_literal_of : ℕ → ℕ → Bool
is_literal_of quote byte = nat_le 32 byte && nat_le byte 127 && not (byte == less_than) && not (byte == ampersand) && not (byte == quote)

-- an attribute of such a tag: white space, the name, `=` in white space, the value in quotes
pub record PlainAttribute : Type 0 where
  pub gap : List ℕ
  pub name : Spelled
  pub before : List ℕ
  pub after : List ℕ
  pub quote : ℕ
  pub value : List ℕ

-- The white space before it may not be left out (XML 1.0 §3.1, STag, Attribute; §2.8, Eq).
abbrev pub is_plain_attribute : PlainAttribute → Bool
is_plain_attribute a = is_gap a.gap && is_plain_qualified a.name && list_all is_space a.before && list_all is_space a.after && is_quote a.quote && list_all (is_literal_of a.quote) a.value

-- the attribute as it is written
abbrev pub plain_attribute_text : PlainAttribute → List ℕ
plain_attribute_text a = a.gap ++ (qualified_text a.name ++ (a.before ++ equals_sign ∷ (a.after ++ a.quote ∷ (a.value ++ a.quote ∷ []))))

-- such a start tag, or such a tag of an empty element
pub record PlainStart : Type 0 where
  pub name : Spelled
  pub attributes : List PlainAttribute
  pub gap : List ℕ
  pub is_empty : Bool

-- its parts are what they should be
abbrev pub is_plain_start : PlainStart → Bool
is_plain_start t = is_plain_qualified t.name && list_all is_plain_attribute t.attributes && list_all is_space t.gap

-- what it ends with
abbrev pub start_end : Bool → List ℕ
start_end is_empty = if is_empty then slash ∷ greater_than ∷ [] else greater_than ∷ []

-- the tag as it is written
abbrev pub plain_start_text : PlainStart → List ℕ
plain_start_text t = less_than ∷ (qualified_text t.name ++ (flat_map plain_attribute_text t.attributes ++ (t.gap ++ start_end t.is_empty)))
