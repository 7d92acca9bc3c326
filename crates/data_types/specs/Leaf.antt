-- What an element without elements holds, and the characters that spell it: XML Schema part 2 §2.1 and §3.2, with the white space
-- of §4.3.6 (kept in texts, collapsed in all others).
use Rattle.std.specs.Prelude.{◌≡◌, ℕ, Bool, List, length, encode_utf8_all}
use Rattle.std.specs.List.{AllByRecursion}
use Rattle.lexical_core.specs.Characters.{IsXmlChar}
use Rattle.lexical_core.specs.Decimals.{Number as DecimalNumber, IsDecimal, IsDecimalText, SpellsDecimal}
use Rattle.data_types.specs.WhiteSpace.{IsCollapsed}
use Rattle.data_types.specs.Booleans.{IsBooleanText}
use Rattle.data_types.specs.Binaries.{IsBinaryText}
use Rattle.data_types.specs.Dates.{IsDateText}
use Rattle.data_types.specs.declared.kind.Kind.{Kind}
use Rattle.data_types.specs.declared.kind.Kind.TheVariants.{Text, Decimal, Boolean, Binary, Date, DateTime, Time, Year, YearMonth, MonthDay, Month, Day, Envelope}

-- the UTF-8 of a text, the octets of a binary value, a collapsed date or the canonical fragment of an envelope; a number; a truth
-- value; a code by its place among the codes of its set, sorted by bytes
pub data Leaf : Type 0 where
  Bytes : (bytes : List ℕ) → Leaf
  Number : (number : DecimalNumber) → Leaf
  Flag : (flag : Bool) → Leaf
  Code : (place : ℕ) → Leaf

-- string, §3.2.1: the characters as they are, with nothing cut off
abbrev pub IsTextLeaf : List ℕ → Leaf → Type 0
IsTextLeaf chars (Bytes bytes) = AllByRecursion IsXmlChar chars × (bytes ≡ encode_utf8_all chars)
IsTextLeaf chars leaf = ⊥

-- decimal, §3.2.3: cut off are numbers of more than 18 digits, or of more than 18 after the point
abbrev pub IsDecimalLeaf : List ℕ → Leaf → Type 0
IsDecimalLeaf chars (Number number) = (text : List ℕ) × IsCollapsed chars text × IsDecimal number × SpellsDecimal text number
IsDecimalLeaf chars leaf = ⊥

-- boolean, §3.2.2, with nothing cut off
abbrev pub IsBooleanLeaf : List ℕ → Leaf → Type 0
IsBooleanLeaf chars (Flag flag) = (text : List ℕ) × IsCollapsed chars text × IsBooleanText flag text
IsBooleanLeaf chars leaf = ⊥

-- base64Binary, §3.2.16, with nothing cut off: the section itself has no text whose unused bits are not zero
abbrev pub IsBinaryLeaf : List ℕ → Leaf → Type 0
IsBinaryLeaf chars (Bytes octets) = (text : List ℕ) × IsCollapsed chars text × IsBinaryText octets text
IsBinaryLeaf chars leaf = ⊥

-- dateTime and its parts, §3.2.7 to §3.2.14: the collapsed text itself. Cut off are years outside 0001 to 9999, the hour 24, the
-- second 60 and more than nine digits of a second
abbrev pub IsDateLeaf : Kind → List ℕ → Leaf → Type 0
IsDateLeaf kind chars (Bytes text) = IsCollapsed chars text × IsDateText kind text
IsDateLeaf kind chars leaf = ⊥

-- the characters spell this leaf of this kind
abbrev pub IsLeaf : Kind → List ℕ → Leaf → Type 0
IsLeaf Text chars leaf = IsTextLeaf chars leaf
IsLeaf Decimal chars leaf = IsDecimalLeaf chars leaf
IsLeaf Boolean chars leaf = IsBooleanLeaf chars leaf
IsLeaf Binary chars leaf = IsBinaryLeaf chars leaf
IsLeaf Date chars leaf = IsDateLeaf Date chars leaf
IsLeaf DateTime chars leaf = IsDateLeaf DateTime chars leaf
IsLeaf Time chars leaf = IsDateLeaf Time chars leaf
IsLeaf Year chars leaf = IsDateLeaf Year chars leaf
IsLeaf YearMonth chars leaf = IsDateLeaf YearMonth chars leaf
IsLeaf MonthDay chars leaf = IsDateLeaf MonthDay chars leaf
IsLeaf Month chars leaf = IsDateLeaf Month chars leaf
IsLeaf Day chars leaf = IsDateLeaf Day chars leaf
IsLeaf Envelope chars leaf = ⊥

-- how many octets a leaf has, where it is a binary value
abbrev pub octet_count : Leaf → ℕ
octet_count (Bytes octets) = length octets
octet_count leaf = 0

-- the length of the leaf that the characters spell: of a text in characters, of a binary value in octets, of all else none, §4.3.1
abbrev pub length_of : Kind → List ℕ → Leaf → ℕ
length_of Text chars leaf = length chars
length_of Binary chars leaf = octet_count leaf
length_of kind chars leaf = 0

-- some characters spell this leaf of this kind
abbrev pub IsLeafOf : Kind → Leaf → Type 0
IsLeafOf kind leaf = (chars : List ℕ) × IsLeaf kind chars leaf

-- the characters, white space collapsed, are a decimal text, of however many digits: §3.2.3.1
abbrev pub HasDecimalForm : List ℕ → Type 0
HasDecimalForm chars = (text : List ℕ) × IsCollapsed chars text × IsDecimalText text

-- the characters have the form of the kind's texts: they spell a leaf, or a decimal with too many digits for one
abbrev pub HasLeafForm : Kind → List ℕ → Type 0
HasLeafForm Decimal chars = HasDecimalForm chars
HasLeafForm kind chars = (leaf : Leaf) × IsLeaf kind chars leaf
