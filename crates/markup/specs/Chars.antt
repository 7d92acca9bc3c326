-- The characters of XML, as tests on code points (XML 1.0 §2.2, §2.3).
use Rattle.std.specs.Prelude.{◌≡◌, ◌↔◌, ℕ, Bool, ◌==◌, ◌||◌, List, [], ◌∷◌, ◌&&◌, true, false}
use Rattle.std.specs.Int.{is_in_range}
use Rattle.std.specs.List.{list_all}
use Rattle.lexical_core.specs.Characters.{IsXmlChar, IsNameStart, IsNameChar}
use Rattle.markup.specs.Ascii.{tab, line_feed, carriage_return, space}

-- the number stands in one of the ranges, whose two ends belong to them
abbrev pub in_some : List (ℕ × ℕ) → ℕ → Bool
in_some [] c = false
in_some (r ∷ rs) c = is_in_range r.0 r.1 c || in_some rs c

-- the ranges of the characters that XML text may have (XML 1.0 §2.2, Char)
abbrev pub xml_ranges : List (ℕ × ℕ)
xml_ranges = (0x20, 0xD7FF) ∷ (0x9, 0xA) ∷ (0xD, 0xD) ∷ (0xE000, 0xFFFD) ∷ (0x1_0000, 0x10_FFFF) ∷ []

-- of those that a name may begin with: `A` to `Z`, `_`, `a` to `z`, and those that are none of ASCII; a colon only parts a prefix from a local name (XML 1.0 §2.3, NameStartChar; Namespaces in XML 1.0 §3, NCName)
abbrev pub name_start_ranges : List (ℕ × ℕ)
name_start_ranges = (65, 90) ∷ (95, 95) ∷ (97, 122) ∷ (0xC0, 0xD6) ∷ (0xD8, 0xF6) ∷ (0xF8, 0x2FF) ∷ (0x370, 0x37D) ∷ (0x37F, 0x1FFF)
    ∷ (0x200C, 0x200D) ∷ (0x2070, 0x218F) ∷ (0x2C00, 0x2FEF) ∷ (0x3001, 0xD7FF) ∷ (0xF900, 0xFDCF) ∷ (0xFDF0, 0xFFFD) ∷ (0x1_0000, 0xE_FFFF) ∷ []

-- of those that it may go on with besides: `-` and `.`, `0` to `9`, and those that are none of ASCII (XML 1.0 §2.3, NameChar; Namespaces in XML 1.0 §3, NCName)
abbrev pub name_more_ranges : List (ℕ × ℕ)
name_more_ranges = (45, 46) ∷ (48, 57) ∷ (0xB7, 0xB7) ∷ (0x300, 0x36F) ∷ (0x203F, 0x2040) ∷ []

-- a character that XML text may have
unfoldable pub is_xml_char : ℕ → Bool
is_xml_char c = in_some xml_ranges c

-- a character that a name may begin with
unfoldable pub is_name_start : ℕ → Bool
is_name_start c = in_some name_start_ranges c

-- a character that a name may go on with
unfoldable pub is_name_char : ℕ → Bool
is_name_char c = is_name_start c || in_some name_more_ranges c

-- white space (XML 1.0 §2.3, S)
unfoldable pub is_space : ℕ → Bool
is_space c = c == space || c == tab || c == line_feed || c == carriage_return

-- white space that may not be left out
abbrev pub is_gap : List ℕ → Bool
is_gap [] = false
is_gap (c ∷ cs) = is_space c && list_all is_space cs

-- The tests tell the classes of characters.
pub record AreClasses : Type 0 where
  pub xml : (c : ℕ) → (is_xml_char c ≡ true) ↔ IsXmlChar c
  pub start : (c : ℕ) → (is_name_start c ≡ true) ↔ IsNameStart c
  pub name : (c : ℕ) → (is_name_char c ≡ true) ↔ IsNameChar c
