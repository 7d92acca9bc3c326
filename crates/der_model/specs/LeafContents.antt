-- The contents octets of leaves, and what contents octets are under a simple type (X.690 §8.2 to §8.7, §8.23, §11).
use Rattle.std.specs.Prelude.{◌≡◌, ℕ, ◌<◌, ◌≤◌, Bool, true, false, List, [], ◌∷◌, Option, Some, None, Result, Ok, Err, nat_lt, if◌then◌else◌}
use Rattle.std.specs.Int.Digits.{digits_of}
use Rattle.base64.specs.GeneralPurpose.{IsBytes}
use Rattle.lexical_core.specs.Characters.{IsXmlText}
use Rattle.lexical_core.specs.Decimals.{IsDecimal}
use Rattle.lexical_core.specs.Reals.{IsReal}
use Rattle.lexical_core.specs.declared.rule.Rule.{Rule}
use Rattle.lexical_core.specs.declared.rule.Rule.TheVariants.{BadText, NotACode, BadContents}
use Rattle.data_types.specs.Dates.{IsDateText}
use Rattle.data_types.specs.Leaf.{Leaf, Bytes, Number, Flag, Code}
use Rattle.data_types.specs.declared.kind.Kind.{Kind}
use Rattle.data_types.specs.declared.kind.Kind.TheVariants as kind
use Rattle.facets.specs.LeafUnder.{Fits, BreaksAs}
use Rattle.facets.specs.declared.simple.Simple.{Simple}
use Rattle.der_model.specs.RealContents.{real_contents}

-- a 0 before digits that would else be none, or those of a negative number
abbrev pub with_sign_bit : List ℕ → List ℕ
with_sign_bit [] = 0 ∷ []
with_sign_bit (d ∷ ds) = if nat_lt d 128 then d ∷ ds else 0 ∷ d ∷ ds

-- the octets of a number that is not negative: its two's complement, as few as there can be, §8.3.2
unfoldable pub integer_octets : ℕ → List ℕ
integer_octets n = with_sign_bit (digits_of 256 n)

-- the octets are the two's complement of some number, as few as there can be: the first nine bits are not alike, §8.3.2
abbrev pub IsInteger : List ℕ → Type 0
IsInteger [] = ⊥
IsInteger (d ∷ []) = Unit {0}
IsInteger (d ∷ e ∷ ds) = (d ≡ 0 → 128 ≤ e) × (d ≡ 255 → e < 128)

-- §8.2.2, §11.1
abbrev pub flag_octet : Bool → ℕ
flag_octet true = 255
flag_octet false = 0

-- the contents octets of a leaf: of a text or a date its UTF-8, of a binary value its octets
abbrev pub leaf_contents : Leaf → List ℕ
leaf_contents (Bytes bytes) = bytes
leaf_contents (Number number) = real_contents number
leaf_contents (Flag flag) = flag_octet flag ∷ []
leaf_contents (Code place) = integer_octets place

-- the octets are text of XML characters: UTF8String, and VisibleString too, whose texts are no dates where they are more than ASCII
abbrev pub IsTextContents : List ℕ → Leaf → Type 0
IsTextContents octets (Bytes bytes) = IsXmlText octets × (bytes ≡ octets)
IsTextContents octets leaf = ⊥

abbrev pub IsCodeContents : List ℕ → Leaf → Type 0
IsCodeContents octets (Code place) = octets ≡ integer_octets place
IsCodeContents octets leaf = ⊥

abbrev pub IsDecimalContents : List ℕ → Leaf → Type 0
IsDecimalContents octets (Number number) = IsDecimal number × IsReal octets number
IsDecimalContents octets leaf = ⊥

abbrev pub IsBooleanContents : List ℕ → Leaf → Type 0
IsBooleanContents octets (Flag flag) = octets ≡ flag_octet flag ∷ []
IsBooleanContents octets leaf = ⊥

abbrev pub IsBinaryContents : List ℕ → Leaf → Type 0
IsBinaryContents octets (Bytes bytes) = IsBytes octets × (bytes ≡ octets)
IsBinaryContents octets leaf = ⊥

abbrev pub IsDateContents : Kind → List ℕ → Leaf → Type 0
IsDateContents k octets (Bytes bytes) = IsDateText k octets × (bytes ≡ octets)
IsDateContents k octets leaf = ⊥

-- the octets are the contents of this leaf, whether it fits or not
abbrev pub IsContents : Kind → Option (List (List ℕ)) → List ℕ → Leaf → Type 0
IsContents kind.Text None octets leaf = IsTextContents octets leaf
IsContents kind.Text (Some codes) octets leaf = IsCodeContents octets leaf
IsContents kind.Decimal codes octets leaf = IsDecimalContents octets leaf
IsContents kind.Boolean codes octets leaf = IsBooleanContents octets leaf
IsContents kind.Binary codes octets leaf = IsBinaryContents octets leaf
IsContents kind.Envelope codes octets leaf = ⊥
IsContents k codes octets leaf = IsDateContents k octets leaf

-- the octets have the form of the type's contents: they are an integer where there are codes, a text where the kind is a date's
abbrev pub HasContentsForm : Kind → Option (List (List ℕ)) → List ℕ → Type 0
HasContentsForm kind.Text None octets = IsXmlText octets
HasContentsForm kind.Text (Some codes) octets = IsInteger octets
HasContentsForm kind.Decimal codes octets = (leaf : Leaf) × IsDecimalContents octets leaf
HasContentsForm kind.Boolean codes octets = (leaf : Leaf) × IsBooleanContents octets leaf
HasContentsForm kind.Binary codes octets = IsBytes octets
HasContentsForm kind.Envelope codes octets = ⊥
HasContentsForm k codes octets = IsXmlText octets

-- there are codes, which alone count
abbrev pub HasCodes : Kind → Option (List (List ℕ)) → Type 0
HasCodes kind.Text (Some codes) = Unit {0}
HasCodes k codes = ⊥

-- What contents octets are under a simple type: the leaf that fits; BadContents where they have not the form; and where they have it, NotACode
-- for a number without a code, BadText for a text that is no date as it stands, and else the rule of the leaf that does not fit.
abbrev pub ContentsUnder : Simple → List ℕ → Result Leaf Rule → Type 0
ContentsUnder simple octets (Ok leaf) = IsContents simple.kind simple.codes octets leaf × Fits simple leaf
ContentsUnder simple octets (Err BadContents) = HasContentsForm simple.kind simple.codes octets → ⊥
ContentsUnder simple octets (Err NotACode) =
    HasContentsForm simple.kind simple.codes octets × HasCodes simple.kind simple.codes × ((leaf : Leaf) → IsContents simple.kind simple.codes octets leaf → Fits simple leaf → ⊥)
ContentsUnder simple octets (Err BadText) =
    HasContentsForm simple.kind simple.codes octets × (HasCodes simple.kind simple.codes → ⊥) × ((leaf : Leaf) → IsContents simple.kind simple.codes octets leaf → ⊥)
ContentsUnder simple octets (Err rule) = (HasCodes simple.kind simple.codes → ⊥) × (leaf : Leaf) × IsContents simple.kind simple.codes octets leaf × BreaksAs simple leaf rule
