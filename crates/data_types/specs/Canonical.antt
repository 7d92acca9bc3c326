-- The one canonical text of a leaf: XML Schema part 2 §3.2.2.2 and §3.2.16; of a decimal that of XML Schema 1.1 part 2 §3.3.3,
-- decimalCanonicalMap, as 1 where §3.2.3.2 of the first version writes 1.0; and the collapsed text of a date as it is.
use Rattle.std.specs.Prelude.{◌≡◌, ℕ, false, List, flat_map}
use Rattle.lexical_core.specs.Decimals.{IsDecimal, IsCanonicalText}
use Rattle.lexical_core.specs.Escapes.{escape_of}
use Rattle.data_types.specs.declared.kind.Kind.{Kind}
use Rattle.data_types.specs.declared.kind.Kind.TheVariants.{Text, Decimal, Boolean, Binary, Date, DateTime, Time, Year, YearMonth, MonthDay, Month, Day, Envelope}
use Rattle.data_types.specs.Booleans.{boolean_text}
use Rattle.data_types.specs.Binaries.{binary_text}
use Rattle.data_types.specs.Leaf.{Leaf, Bytes, Number, Flag, IsTextLeaf}

-- the characters of a number with no plus sign, no leading zeros but one before the point and no zeros behind its fraction
abbrev pub IsCanonicalDecimal : Leaf → List ℕ → Type 0
IsCanonicalDecimal (Number number) chars = IsDecimal number × IsCanonicalText chars number
IsCanonicalDecimal leaf chars = ⊥

-- `true` or `false`
abbrev pub IsCanonicalBoolean : Leaf → List ℕ → Type 0
IsCanonicalBoolean (Flag flag) chars = chars ≡ boolean_text flag
IsCanonicalBoolean leaf chars = ⊥

-- base64 with no spaces
abbrev pub IsCanonicalBinary : Leaf → List ℕ → Type 0
IsCanonicalBinary (Bytes octets) chars = chars ≡ binary_text octets
IsCanonicalBinary leaf chars = ⊥

-- the date as it was written, collapsed: its bytes are its characters, since a date's text is ASCII
abbrev pub IsCanonicalDate : Leaf → List ℕ → Type 0
IsCanonicalDate (Bytes text) chars = chars ≡ text
IsCanonicalDate leaf chars = ⊥

-- the characters are the canonical text of this leaf of this kind
abbrev pub IsCanonicalLeaf : Kind → Leaf → List ℕ → Type 0
IsCanonicalLeaf Text leaf chars = IsTextLeaf chars leaf
IsCanonicalLeaf Decimal leaf chars = IsCanonicalDecimal leaf chars
IsCanonicalLeaf Boolean leaf chars = IsCanonicalBoolean leaf chars
IsCanonicalLeaf Binary leaf chars = IsCanonicalBinary leaf chars
IsCanonicalLeaf Date leaf chars = IsCanonicalDate leaf chars
IsCanonicalLeaf DateTime leaf chars = IsCanonicalDate leaf chars
IsCanonicalLeaf Time leaf chars = IsCanonicalDate leaf chars
IsCanonicalLeaf Year leaf chars = IsCanonicalDate leaf chars
IsCanonicalLeaf YearMonth leaf chars = IsCanonicalDate leaf chars
IsCanonicalLeaf MonthDay leaf chars = IsCanonicalDate leaf chars
IsCanonicalLeaf Month leaf chars = IsCanonicalDate leaf chars
IsCanonicalLeaf Day leaf chars = IsCanonicalDate leaf chars
IsCanonicalLeaf Envelope leaf chars = ⊥

-- the characters as bytes of an element's content, each in its canonical spelling: XML 1.0 §2.4
abbrev pub escaped_text : List ℕ → List ℕ
escaped_text chars = flat_map (escape_of false) chars
