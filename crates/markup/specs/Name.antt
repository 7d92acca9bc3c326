-- Names with a prefix or without one (Namespaces in XML 1.0 §4, QName).
use Rattle.std.specs.Prelude.{ℕ, Bool, ◌&&◌, false, List, [], ◌∷◌, ◌++◌}
use Rattle.std.specs.List.{list_all}
use Rattle.markup.specs.Ascii.{colon}
use Rattle.markup.specs.Chars.{is_name_start, is_name_char}

-- a name as its characters: UnprefixedName or PrefixedName
pub data Name : Type 0 where
  Plain : (local : List ℕ) → Name
  Prefixed : (prefix local : List ℕ) → Name

-- a part of a name: it has no colon (Namespaces §3, NCName)
abbrev pub is_part : List ℕ → Bool
is_part [] = false
is_part (c ∷ cs) = is_name_start c && list_all is_name_char cs

-- a prefix and a local name are such parts
abbrev pub is_name : Name → Bool
is_name (Plain local) = is_part local
is_name (Prefixed prefix local) = is_part prefix && is_part local

-- the name as it is written
abbrev pub name_text : Name → List ℕ
name_text (Plain local) = local
name_text (Prefixed prefix local) = prefix ++ colon ∷ local
