-- What the constraints of a type ask of its values: X.680 §49 to §51, and the facets that the user-defined ones name.
use Rattle.std.specs.Prelude.{◌≡◌, ℕ, ◌<◌, ◌≤◌, ◌^◌, List, length, Option, Some, None, MatchOption, encode_utf8_all}
use Rattle.std.specs.List.{AllByRecursion}
use Rattle.std.specs.Str.{chars}
use Rattle.std.specs.Int.RustNames.{unsigned_abs}
use Rattle.base64.specs.GeneralPurpose.{IsBytes}
use Rattle.lexical_core.specs.Characters.{IsXmlChar}
use Rattle.lexical_core.specs.Decimals.{Number as DecimalNumber, IsDecimal}
use Rattle.pattern_match.specs.Reading.{Matches}
use Rattle.data_types.specs.Dates.{IsDateText}
use Rattle.data_types.specs.Leaf.{Leaf, Bytes, Number, Flag}
use Rattle.data_types.specs.declared.kind.Kind.{Kind}
use Rattle.data_types.specs.declared.kind.Kind.TheVariants as kind
use Rattle.facets.specs.Facets.{IsAbove, IsBelow}
use Rattle.facets.specs.declared.step.Step.{Step}

-- SIZE: X.680 §51.5, of a UTF8String in characters, of an OCTET STRING in octets
pub record HasSize (step : Step) (n : ℕ) : Type 0 where
  pub least : MatchOption step.min (Unit {0}) (λ min. min ≤ n)
  pub most : MatchOption step.max (Unit {0}) (λ max. n ≤ max)

-- `totalDigits` and `fractionDigits`
pub record HasFewDigits (step : Step) (n : DecimalNumber) : Type 0 where
  pub total : MatchOption step.total (Unit {0}) (λ total. (unsigned_abs n.whole < 10 ^ total) × (n.scale ≤ total))
  pub fraction : MatchOption step.fraction (Unit {0}) (λ fraction. n.scale ≤ fraction)

-- `minInclusive`, `minExclusive`, `maxInclusive`, `maxExclusive`
pub record IsWithinRange (step : Step) (n : DecimalNumber) : Type 0 where
  pub low : MatchOption step.low (Unit {0}) (λ bound. IsAbove bound n)
  pub high : MatchOption step.high (Unit {0}) (λ bound. IsBelow bound n)

-- `pattern`, of characters
abbrev pub HasPattern : Option (List ℕ) → List ℕ → Type 0
HasPattern None text = Unit {0}
HasPattern (Some pattern) text = Matches (chars pattern) text

-- `xml characters`
abbrev pub IsTextValue : Step → Option (List ℕ) → Leaf → Type 0
IsTextValue step pattern (Bytes bytes) =
    (text : List ℕ) × AllByRecursion IsXmlChar text × (bytes ≡ encode_utf8_all text) × HasSize step (length text) × HasPattern pattern text
IsTextValue step pattern leaf = ⊥

-- REAL of base 10
abbrev pub IsRealValue : Step → Leaf → Type 0
IsRealValue step (Number number) = IsDecimal number × HasFewDigits step number × IsWithinRange step number
IsRealValue step leaf = ⊥

abbrev pub IsBooleanValue : Leaf → Type 0
IsBooleanValue (Flag flag) = Unit {0}
IsBooleanValue leaf = ⊥

abbrev pub IsOctetsValue : Step → Leaf → Type 0
IsOctetsValue step (Bytes octets) = IsBytes octets × HasSize step (length octets)
IsOctetsValue step leaf = ⊥

-- `xs:dateTime profile` and its kin
abbrev pub IsDateValue : Kind → Option (List ℕ) → Leaf → Type 0
IsDateValue k pattern (Bytes text) = IsDateText k text × HasPattern pattern text
IsDateValue k pattern leaf = ⊥

-- the value is one of the kind, and within its constraints; a facet that the kind does not have is not written, and asks nothing
abbrev pub IsPlainValue : Kind → Step → Option (List ℕ) → Leaf → Type 0
IsPlainValue kind.Text step pattern leaf = IsTextValue step pattern leaf
IsPlainValue kind.Decimal step pattern leaf = IsRealValue step leaf
IsPlainValue kind.Boolean step pattern leaf = IsBooleanValue leaf
IsPlainValue kind.Binary step pattern leaf = IsOctetsValue step leaf
IsPlainValue kind.Envelope step pattern leaf = ⊥
IsPlainValue k step pattern leaf = IsDateValue k pattern leaf
