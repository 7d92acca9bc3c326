-- The rules that a text can break under a simple type, and the least of them. Of decimals the total is at most 18: a number of more digits, or of
-- more behind the point, is no leaf, and breaks Digits.
use Rattle.std.specs.Prelude.{◌≡◌, ℕ, ◌<◌, List, Option, Some, None, Contains, encode_utf8_all}
use Rattle.std.specs.Str.{chars}
use Rattle.lexical_core.specs.Decimals.{Number as DecimalNumber}
use Rattle.lexical_core.specs.Rules.{number_of}
use Rattle.lexical_core.specs.declared.rule.Rule.{Rule}
use Rattle.lexical_core.specs.declared.rule.Rule.TheVariants.{BadText, BadLength, PatternFails, NotACode, Digits, OutOfRange}
use Rattle.pattern_match.specs.Reading.{Matches}
use Rattle.data_types.specs.WhiteSpace.{IsCollapsed}
use Rattle.data_types.specs.Leaf.{Leaf, Number, IsLeaf, HasLeafForm, length_of}
use Rattle.data_types.specs.declared.kind.Kind.{Kind}
use Rattle.data_types.specs.declared.kind.Kind.TheVariants as kind
use Rattle.facets.specs.declared.simple.Simple.{Simple}
use Rattle.facets.specs.Facets.{HasLength, HasDigits, IsInRange}

-- the simple types whose length counts, §4.3.1: of texts, but where there are codes these alone count, and of binary values
abbrev pub HasLengths : Kind → Option (List (List ℕ)) → Type 0
HasLengths kind.Text codes = codes ≡ None
HasLengths kind.Binary codes = Unit {0}
HasLengths k codes = ⊥

-- the text that a pattern is asked of: a text as it is, but where there are codes these alone count; a date or a time collapsed; numbers, truth
-- values and binary values have no pattern
abbrev pub IsAsked : Kind → Option (List (List ℕ)) → List ℕ → List ℕ → Type 0
IsAsked kind.Text codes text asked = (codes ≡ None) × (asked ≡ text)
IsAsked kind.Decimal codes text asked = ⊥
IsAsked kind.Boolean codes text asked = ⊥
IsAsked kind.Binary codes text asked = ⊥
IsAsked kind.Envelope codes text asked = ⊥
IsAsked k codes text asked = IsCollapsed text asked

-- the characters have not the form of the kind's texts: §3.2
abbrev pub BreaksForm : Simple → List ℕ → Type 0
BreaksForm simple text = HasLeafForm simple.kind text → ⊥

-- they spell a value whose length is outside its bounds: §4.3.1 to §4.3.3
abbrev pub BreaksLength : Simple → List ℕ → Type 0
BreaksLength simple text =
    HasLengths simple.kind simple.codes × (leaf : Leaf) × IsLeaf simple.kind text leaf × (HasLength simple (length_of simple.kind text leaf) → ⊥)

-- what the pattern is asked of is none of its words: §4.3.4
abbrev pub BreaksPattern : Simple → List ℕ → Type 0
BreaksPattern simple text =
    (pattern : List ℕ) × (asked : List ℕ) × (simple.pattern ≡ Some pattern) × IsAsked simple.kind simple.codes text asked × (Matches (chars pattern) asked → ⊥)

-- there are codes, and the text is none of them: §4.3.5
abbrev pub BreaksCodes : Simple → List ℕ → Type 0
BreaksCodes simple text =
    (simple.kind ≡ kind.Text) × (codes : List (List ℕ)) × (simple.codes ≡ Some codes) × (Contains codes (encode_utf8_all text) → ⊥)

-- they have the form of a decimal, but spell no number that has so few digits: §4.3.11, §4.3.12
abbrev pub BreaksDigits : Simple → List ℕ → Type 0
BreaksDigits simple text =
    (simple.kind ≡ kind.Decimal) × HasLeafForm kind.Decimal text
    × ((number : DecimalNumber) → IsLeaf kind.Decimal text (Number number) → HasDigits simple number → ⊥)

-- they spell a number outside its bounds: §4.3.7 to §4.3.10
abbrev pub BreaksRange : Simple → List ℕ → Type 0
BreaksRange simple text =
    (simple.kind ≡ kind.Decimal) × (number : DecimalNumber) × IsLeaf kind.Decimal text (Number number) × (IsInRange simple number → ⊥)

-- the characters break this rule under the simple type
abbrev pub BreaksLeafRule : Simple → List ℕ → Rule → Type 0
BreaksLeafRule simple text BadText = BreaksForm simple text
BreaksLeafRule simple text BadLength = BreaksLength simple text
BreaksLeafRule simple text PatternFails = BreaksPattern simple text
BreaksLeafRule simple text NotACode = BreaksCodes simple text
BreaksLeafRule simple text Digits = BreaksDigits simple text
BreaksLeafRule simple text OutOfRange = BreaksRange simple text
BreaksLeafRule simple text rule = ⊥

-- they break this rule, and none of a lesser number
pub record BreaksFirst (simple : Simple) (text : List ℕ) (rule : Rule) : Type 0 where
  pub broken : BreaksLeafRule simple text rule
  pub first : (other : Rule) → number_of other < number_of rule → BreaksLeafRule simple text other → ⊥
