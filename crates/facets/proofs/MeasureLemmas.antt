-- The answer on a number or a binary value, from what its reader and its measure answer.
use Rattle.std.proofs.Common.{◌≡◌, ◌≤◌, ℕ, List, Option, Some, None, MatchOption, Result, Ok, Err, length, sym, subst, arith}
use Rattle.lexical_core.specs.declared.rule.Rule.{Rule}
use Rattle.lexical_core.specs.declared.rule.Rule.TheVariants.{BadText, BadLength, Digits, OutOfRange}
use Rattle.data_types.specs.Leaf.{Leaf, Bytes, Number, IsLeaf, HasLeafForm, length_of}
use Rattle.data_types.specs.LeafAnswers.{IsLeafAnswer, IsOctetCount}
use Rattle.data_types.specs.Limits.{IsPast}
use Rattle.data_types.specs.declared.kind.Kind.{Kind}
use Rattle.data_types.specs.declared.kind.Kind.TheVariants as kind
use Rattle.facets.specs.declared.simple.Simple.{Simple}
use Rattle.facets.specs.Facets.{HasLength}
use Rattle.facets.specs.Rules.{BreaksFirst}
use Rattle.facets.specs.Checks.{IsLengthAnswer}
use Rattle.facets.specs.LeafUnder.{GivesLeaf}
use Rattle.facets.specs.LeafChecks.{IsMeasuredKind, IsMeasureAnswer, limit_by}
use Rattle.facets.specs.LeafVerdicts.{IsVerdict}
use Rattle.facets.proofs.TextRules.{form_first}
use Rattle.facets.proofs.RuleLemmas.{no_number_first, number_given, many_digits, out_of_range, octets_given, octets_past}

-- what is within its measure
pub measured_given : {T : Type 0} (k : Kind) (simple : Simple) (text : List ℕ) (leaf : Leaf) (x : T) → simple.kind ≡ k → IsMeasuredKind k → IsLeaf k text leaf → IsMeasureAnswer simple leaf (Ok x)
    → GivesLeaf simple text leaf
measured_given kind.Decimal simple text (Number n) x e is spelled within = number_given simple n text e spelled within.0 within.1
measured_given kind.Decimal simple text leaf x e is spelled within = absurd spelled
measured_given kind.Binary simple text (Bytes octets) x e is spelled within = octets_given simple octets text e spelled within
measured_given kind.Binary simple text leaf x e is spelled within = absurd spelled
measured_given k simple text leaf x e is spelled within = absurd is

number_measured : (T : Type 0) (simple : Simple) (text : List ℕ) (leaf : Leaf) (rule : Rule) → simple.kind ≡ kind.Decimal → IsLeaf kind.Decimal text leaf
    → IsMeasureAnswer {T = T} simple leaf (Err rule) → BreaksFirst simple text rule
number_measured T simple text (Number n) Digits e spelled many = many_digits simple n text e spelled many
number_measured T simple text (Number n) OutOfRange e spelled out = out_of_range simple n text e spelled out.0 out.1
number_measured T simple text (Number n) rule e spelled none = absurd none
number_measured T simple text leaf rule e spelled none = absurd spelled

octets_measured : (T : Type 0) (simple : Simple) (text : List ℕ) (leaf : Leaf) (rule : Rule) → simple.kind ≡ kind.Binary → IsLeaf kind.Binary text leaf
    → IsMeasureAnswer {T = T} simple leaf (Err rule) → BreaksFirst simple text rule
octets_measured T simple text (Bytes octets) BadLength e spelled past = octets_past simple octets text e spelled past
octets_measured T simple text (Bytes octets) rule e spelled none = absurd none
octets_measured T simple text leaf rule e spelled none = absurd spelled

-- what is not
pub measured_broken : (T : Type 0) (k : Kind) (simple : Simple) (text : List ℕ) (leaf : Leaf) (rule : Rule) → simple.kind ≡ k → IsMeasuredKind k → IsLeaf k text leaf
    → IsMeasureAnswer {T = T} simple leaf (Err rule) → BreaksFirst simple text rule
measured_broken T kind.Decimal simple text leaf rule e is spelled broken = number_measured T simple text leaf rule e spelled broken
measured_broken T kind.Binary simple text leaf rule e is spelled broken = octets_measured T simple text leaf rule e spelled broken
measured_broken T k simple text leaf rule e is spelled broken = absurd is

-- a length past the greatest is outside its bounds
past_greatest : (simple : Simple) (n : ℕ) → IsPast simple.max n → HasLength simple n → ⊥
past_greatest simple n past has = past_most simple.max past has.most
  where
    past_most : (max : Option ℕ) → IsPast max n → MatchOption max (Unit {0}) (λ most. n ≤ most) → ⊥
    past_most None past within = past
    past_most (Some most) past within = omega (arith, past, within)

octets_unread : (simple : Simple) (text : List ℕ) (leaf : Leaf) → simple.kind ≡ kind.Binary → IsLeaf kind.Binary text leaf → IsPast simple.max (length_of kind.Binary text leaf)
    → BreaksFirst simple text BadLength
octets_unread simple text (Bytes octets) e spelled past = octets_past simple octets text e spelled (past_greatest simple (length octets) past)
octets_unread simple text leaf e spelled past = absurd spelled

number_unread : (simple : Simple) (text : List ℕ) (rule : Rule) → simple.kind ≡ kind.Decimal → IsLeafAnswer kind.Decimal None text (Err rule) → BreaksFirst simple text rule
number_unread simple text BadText e none = form_first simple text (subst (λ (k : Kind). HasLeafForm k text → ⊥) (sym e) none)
number_unread simple text BadLength e past = absurd past.2
number_unread simple text Digits e none = no_number_first simple text e none.1 none.2
number_unread simple text rule e none = absurd none

binary_unread : (simple : Simple) (text : List ℕ) (rule : Rule) → simple.kind ≡ kind.Binary → IsLeafAnswer kind.Binary simple.max text (Err rule) → BreaksFirst simple text rule
binary_unread simple text BadText e none = form_first simple text (subst (λ (k : Kind). HasLeafForm k text → ⊥) (sym e) none)
binary_unread simple text BadLength e past = octets_unread simple text past.0 e past.1 past.2
binary_unread simple text Digits e none = let decimal = none.0 in absurd cc
binary_unread simple text rule e none = absurd none

-- what the reader refuses
pub measured_unread : (k : Kind) (simple : Simple) (text : List ℕ) (rule : Rule) → simple.kind ≡ k → IsMeasuredKind k
    → IsLeafAnswer k (limit_by k simple.max simple.codes) text (Err rule) → BreaksFirst simple text rule
measured_unread kind.Decimal simple text rule e is none = number_unread simple text rule e none
measured_unread kind.Binary simple text rule e is none = binary_unread simple text rule e none
measured_unread k simple text rule e is none = absurd is

-- ---- the verdict on a binary value, from the count of its octets

pub octets_verdict : {T : Type 0} (simple : Simple) (text octets : List ℕ) (result : Result T Rule) → simple.kind ≡ kind.Binary → IsLeaf kind.Binary text (Bytes octets)
    → IsLengthAnswer simple (length octets) result → IsVerdict simple text result
octets_verdict simple text octets (Ok x) e spelled within = (Bytes octets, octets_given simple octets text e spelled within)
octets_verdict simple text octets (Err BadLength) e spelled past = octets_past simple octets text e spelled past
octets_verdict simple text octets (Err rule) e spelled none = absurd none

pub uncounted_first : (simple : Simple) (text : List ℕ) (rule : Rule) → simple.kind ≡ kind.Binary → IsOctetCount kind.Binary text (Err rule) → BreaksFirst simple text rule
uncounted_first simple text BadText e none = form_first simple text (subst (λ (k : Kind). HasLeafForm k text → ⊥) (sym e) none)
uncounted_first simple text rule e none = absurd none
