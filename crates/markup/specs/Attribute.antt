-- Attributes, with the white space round them, and the values that they spell (XML 1.0 §3.1, §2.3, §3.3.3).
use Rattle.std.specs.Prelude.{ℕ, Bool, ◌==◌, ◌||◌, ◌&&◌, not, false, List, [], ◌∷◌, ◌++◌, codes, if◌then◌else◌}
use Rattle.std.specs.List.{list_all, flat_map}
use Rattle.markup.specs.Ascii.{line_feed, carriage_return, space, quotation_mark, ampersand, apostrophe, less_than}
use Rattle.markup.specs.Chars.{is_xml_char, is_space, is_gap}
use Rattle.markup.specs.Name.{Name, is_name, name_text}
use Rattle.markup.specs.Reference.{Reference, is_reference, reference_text, referred_character}

-- a piece of an attribute's value: a character, or a reference to one
pub data ValuePiece : Type 0 where
  Literal : (char : ℕ) → ValuePiece
  Refers : (reference : Reference) → ValuePiece

-- a value has no `<` and not its own quote; `&` begins a reference (XML 1.0 §2.3, AttValue)
abbrev pub is_piece : ℕ → ValuePiece → Bool
is_piece quote (Literal c) = is_xml_char c && not (c == less_than) && not (c == ampersand) && not (c == quote)
is_piece quote (Refers r) = is_reference r

-- the piece as it is written
abbrev pub piece_text : ValuePiece → List ℕ
piece_text (Literal c) = c ∷ []
piece_text (Refers r) = reference_text r

-- an attribute: white space, the name, `=` in white space, the value in quotes
pub record Attribute : Type 0 where
  pub gap : List ℕ
  pub name : Name
  pub before : List ℕ
  pub after : List ℕ
  pub quote : ℕ
  pub value : List ValuePiece

-- The white space before it may not be left out, and the quote is one of the two kinds (XML 1.0 §3.1, STag, Attribute; §2.8, Eq).
abbrev pub is_attribute : Attribute → Bool
is_attribute a = is_gap a.gap && is_name a.name && list_all is_space a.before && list_all is_space a.after && (a.quote == quotation_mark || a.quote == apostrophe) && list_all (is_piece a.quote) a.value

-- the attribute as it is written
abbrev pub attribute_text : Attribute → List ℕ
attribute_text a = a.gap ++ name_text a.name ++ a.before ++ codes "=" ++ a.after ++ a.quote ∷ [] ++ flat_map piece_text a.value ++ a.quote ∷ []

-- the pieces begin with a literal LF
abbrev pub begins_lf : List ValuePiece → Bool
begins_lf [] = false
begins_lf (Literal c ∷ pieces) = c == line_feed
begins_lf (Refers r ∷ pieces) = false

-- The value's characters: literal white space, with CR LF as one, is a space; a reference gives its character unchanged (XML 1.0 §2.11, §3.3.3).
abbrev pub value_chars : List ValuePiece → List ℕ
value_chars [] = []
value_chars (Refers r ∷ pieces) = referred_character r ∷ value_chars pieces
value_chars (Literal c ∷ pieces) = if c == carriage_return && begins_lf pieces then value_chars pieces else (if is_space c then space else c) ∷ value_chars pieces
