-- What the check of a leaf keeps of the characters that it was given.
use Rattle.std.specs.Prelude.{◌≡◌, ℕ, ◌+◌, ◌*◌, ◌<◌, ◌≤◌, ◌^◌, min, List, length, Option, Some, None, MatchOption, Result, Ok, Err, Contains, slice_get, encode_utf8_all}
use Rattle.std.specs.List.{AllByRecursion}
use Rattle.lexical_core.specs.Characters.{IsXmlChar}
use Rattle.lexical_core.specs.declared.rule.Rule.{Rule}
use Rattle.lexical_core.specs.declared.rule.Rule.TheVariants.{NotACode}
use Rattle.data_types.specs.LeafAnswers.{leaf_of}
use Rattle.data_types.specs.declared.leaf.LeafRef.{LeafRef}
use Rattle.data_types.specs.Leaf.{Leaf, Bytes, Number}
use Rattle.data_types.specs.LeafSteps.{HasTakenLeaf, kept_by_step as kept_by, in_place as in_place_of, room as room_of, spare as spare_of}
use Rattle.data_types.specs.declared.kind.Kind.{Kind}
use Rattle.data_types.specs.declared.kind.Kind.TheVariants as kind
use Rattle.facets.specs.LeafUnder.{IsCodeAt}
use Rattle.facets.specs.Facets.{HasLength}
use Rattle.facets.specs.Rules.{BreaksPattern, BreaksFirst}
use Rattle.facets.specs.Checks.{IsLengthAnswer, IsNumberAnswer}
use Rattle.facets.specs.declared.leaf_check.LeafCheck.{LeafCheck}
use Rattle.facets.specs.declared.progress.Progress.{Progress}
use Rattle.facets.specs.declared.simple.Simple.{Simple}
use Rattle.facets.specs.CodeLists.{longest_of}
use Rattle.facets.specs.Counts.{HasCounted}
use Rattle.facets.specs.PatternChecks.{HasFollowed}

-- a code has a number of 32 bits, and a decimal no more digits than a number can have
pub record IsWithinLimits (simple : Simple) : Type 0 where
  pub codes : MatchOption simple.codes (Unit {0}) (λ codes. length codes < 2 ^ 32)
  pub total : simple.kind ≡ kind.Decimal → simple.total ≤ 18

-- the most characters of a text that can be a leaf: its greatest length, or where there are codes that of the longest
abbrev pub text_limit : Option ℕ → Option (List (List ℕ)) → Option ℕ
text_limit most None = most
text_limit most (Some codes) = Some (longest_of codes)

abbrev pub limit_by : Kind → Option ℕ → Option (List (List ℕ)) → Option ℕ
limit_by kind.Text most codes = text_limit most codes
limit_by kind.Binary most codes = most
limit_by k most codes = None

-- the most characters of a text, or octets of a binary value, that are kept
abbrev pub keep_limit : Simple → Option ℕ
keep_limit simple = limit_by simple.kind simple.max simple.codes

-- the limit on the characters of which bytes are held: that of texts and binary values, and 64 where the texts of the kind are short
abbrev pub leaf_limit_by : Kind → Option ℕ → Option (List (List ℕ)) → Option ℕ
leaf_limit_by kind.Text most codes = text_limit most codes
leaf_limit_by kind.Binary most codes = most
leaf_limit_by k most codes = Some 64

abbrev pub leaf_limit : Simple → Option ℕ
leaf_limit simple = leaf_limit_by simple.kind simple.max simple.codes

-- so many bytes are at most four to each of the characters within the limit, and 64
abbrev pub IsHeldWithin : Option ℕ → ℕ → ℕ → Type 0
IsHeldWithin None characters held = held ≤ 4 * characters + 64
IsHeldWithin (Some most) characters held = held ≤ 4 * min characters most + 64

-- these characters were given since it began; no more is kept than the limit allows
pub record HasSeen (progress : Progress) (most : Option ℕ) (simple : Simple) (text : List ℕ) : Type 0 where
  pub step : HasTakenLeaf progress.step simple.kind most text
  pub counted : HasCounted progress.count (length text)
  pub asked : HasFollowed progress.asked simple text
  pub characters : AllByRecursion IsXmlChar text
  pub limits : IsWithinLimits simple

-- the check is one for the simple type, and was given these characters since it was made or begun anew
pub record HasCheckTaken (check : LeafCheck) (simple : Simple) (text : List ℕ) : Type 0 where
  pub seen : HasSeen check.progress (keep_limit simple) simple text

-- the check was made for the simple type
abbrev pub IsCheckMadeFor : LeafCheck → Simple → Type 0
IsCheckMadeFor check simple = (text : List ℕ) × HasCheckTaken check simple text

-- how many bytes a check keeps in memory
abbrev pub check_kept : LeafCheck → ℕ
check_kept check = kept_by check.progress.step

-- how many it holds in place
abbrev pub check_in_place : LeafCheck → ℕ
check_in_place check = in_place_of check.progress.step

-- how many it may keep without asking for memory
abbrev pub check_room : LeafCheck → ℕ
check_room check = room_of check.progress.step

-- how many more it may keep without asking for memory
abbrev pub check_spare : LeafCheck → ℕ
check_spare check = spare_of check.progress.step

-- the leaf is bytes, which are the code at this place
abbrev pub IsByteCode : List (List ℕ) → ℕ → Leaf → Type 0
IsByteCode codes place (Bytes bytes) = slice_get codes place ≡ Some bytes
IsByteCode codes place leaf = ⊥

-- the answer on a text where there are codes: the place of the one that it is, or NotACode where it is none
abbrev pub IsCodeAnswer : List (List ℕ) → List ℕ → Result LeafRef Rule → Type 0
IsCodeAnswer codes text (Ok leaf) = IsCodeAt codes text (leaf_of leaf)
IsCodeAnswer codes text (Err NotACode) = Contains codes (encode_utf8_all text) → ⊥
IsCodeAnswer codes text (Err rule) = ⊥

-- the kinds whose leaves are measured: a number by its digits and bounds, a binary value by its length
abbrev pub IsMeasuredKind : Kind → Type 0
IsMeasuredKind kind.Decimal = Unit {0}
IsMeasuredKind kind.Binary = Unit {0}
IsMeasuredKind k = ⊥

-- what the measure of a leaf answers
abbrev pub IsMeasureAnswer : {T : Type 0} → Simple → Leaf → Result T Rule → Type 0
IsMeasureAnswer simple (Bytes octets) result = IsLengthAnswer simple (length octets) result
IsMeasureAnswer simple (Number number) result = IsNumberAnswer simple number result
IsMeasureAnswer simple leaf (Ok x) = Unit {0}
IsMeasureAnswer simple leaf (Err rule) = ⊥

-- the answer on a text where there are no codes: its length and its pattern are right, or the first rule that it breaks
abbrev pub IsTextAnswer : {T : Type 0} → Simple → List ℕ → Result T Rule → Type 0
IsTextAnswer simple text (Ok x) = HasLength simple (length text) × (BreaksPattern simple text → ⊥)
IsTextAnswer simple text (Err rule) = BreaksFirst simple text rule
