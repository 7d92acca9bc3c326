-- The fields of an XML declaration, each spelled as an attribute is (XML 1.0 §2.8, XMLDecl).
use Rattle.std.specs.Prelude.{ℕ, Bool, ◌||◌, ◌&&◌, false, List, [], ◌∷◌, map, codes}
use Rattle.std.specs.List.{flat_map}
use Rattle.std.specs.Char.{to_ascii_lowercase}
use Rattle.std.specs.Str.{bytes_eq}
use Rattle.markup.specs.Name.{name_text}
use Rattle.markup.specs.Attribute.{Attribute, is_attribute, piece_text}

-- an attribute of this name whose value, as it is written, passes the test
abbrev pub is_field : List ℕ → (List ℕ → Bool) → Attribute → Bool
is_field name test a = is_attribute a && bytes_eq (name_text a.name) name && test (flat_map piece_text a.value)

-- The version is 1.0 alone (XML 1.0 §2.8, VersionInfo).
abbrev pub is_version : Attribute → Bool
is_version a = is_field (codes "version") (λ v. bytes_eq v (codes "1.0")) a

-- The encoding is UTF-8 alone, in letters of either case (XML 1.0 §4.3.3, EncodingDecl).
abbrev pub is_encoding : Attribute → Bool
is_encoding a = is_field (codes "encoding") (λ v. bytes_eq (map to_ascii_lowercase v) (codes "utf-8")) a

-- yes or no (XML 1.0 §2.9, SDDecl)
abbrev pub is_standalone : Attribute → Bool
is_standalone a = is_field (codes "standalone") (λ v. bytes_eq v (codes "yes") || bytes_eq v (codes "no")) a

-- the version, then perhaps the encoding, then perhaps standalone
abbrev pub is_declaration : List Attribute → Bool
is_declaration [] = false
is_declaration (v ∷ []) = is_version v
is_declaration (v ∷ a ∷ []) = is_version v && (is_encoding a || is_standalone a)
is_declaration (v ∷ a ∷ b ∷ []) = is_version v && is_encoding a && is_standalone b
is_declaration (v ∷ a ∷ b ∷ c ∷ more) = false
