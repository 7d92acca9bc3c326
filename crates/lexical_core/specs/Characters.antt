-- The characters of XML 1.0 and of names in it, as tables of ranges of code points.
use Rattle.std.specs.Prelude.{ℕ, Bool, ◌≤◌, ◌⊎◌, ◌==◌, ◌||◌, List, [], ◌∷◌, encode_utf8_all, ◌≡◌}
use Rattle.std.specs.List.{AllByRecursion}

-- the number stands in one of the ranges, whose two ends belong to them
abbrev pub IsInSome : List (ℕ × ℕ) → ℕ → Type 0
IsInSome [] c = ⊥
IsInSome (r ∷ rs) c = ((r.0 ≤ c) × (c ≤ r.1)) ⊎ IsInSome rs c

-- the characters that may stand in a document: XML 1.0 §2.2, Char
abbrev pub IsXmlChar : ℕ → Type 0
IsXmlChar = IsInSome ((0x20, 0xD7FF) ∷ (0x9, 0xA) ∷ (0xD, 0xD) ∷ (0xE000, 0xFFFD) ∷ (0x1_0000, 0x10_FFFF) ∷ [])

-- the characters that a name may begin with, and no colon: XML 1.0 §2.3, NameStartChar, and Namespaces in XML 1.0 §4, NCName
abbrev pub IsNameStart : ℕ → Type 0
IsNameStart = IsInSome ((65, 90) ∷ (95, 95) ∷ (97, 122) ∷ (0xC0, 0xD6) ∷ (0xD8, 0xF6) ∷ (0xF8, 0x2FF) ∷ (0x370, 0x37D) ∷ (0x37F, 0x1FFF)
    ∷ (0x200C, 0x200D) ∷ (0x2070, 0x218F) ∷ (0x2C00, 0x2FEF) ∷ (0x3001, 0xD7FF) ∷ (0xF900, 0xFDCF) ∷ (0xFDF0, 0xFFFD) ∷ (0x1_0000, 0xE_FFFF) ∷ [])

-- the characters that a name may have after its first, and no colon: XML 1.0 §2.3, NameChar, and Namespaces in XML 1.0 §4, NCName
abbrev pub IsNameChar : ℕ → Type 0
IsNameChar c = IsNameStart c ⊎ IsInSome ((45, 46) ∷ (48, 57) ∷ (0xB7, 0xB7) ∷ (0x300, 0x36F) ∷ (0x203F, 0x2040) ∷ []) c

-- white space: space, tab, LF or CR, XML 1.0 §2.3, S
abbrev pub IsSpace : ℕ → Type 0
IsSpace c = (c ≡ 32) ⊎ (c ≡ 9) ⊎ (c ≡ 10) ⊎ (c ≡ 13)

-- the same as a test
abbrev pub is_white_space : ℕ → Bool
is_white_space c = c == 32 || c == 9 || c == 10 || c == 13

-- the bytes are the UTF-8 of characters that P has: RFC 3629 §3
abbrev pub IsTextOf : (ℕ → Type 0) → List ℕ → Type 0
IsTextOf P bytes = (cs : List ℕ) × AllByRecursion P cs × (encode_utf8_all cs ≡ bytes)

-- the bytes are the UTF-8 of characters of XML: XML 1.0 §2.2
abbrev pub IsXmlText : List ℕ → Type 0
IsXmlText = IsTextOf IsXmlChar
