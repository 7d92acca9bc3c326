-- The rules that texts, truth values, dates and times can break, and what follows for the answer on them.
use Rattle.std.proofs.Common.{◌≡◌, ◌⊎◌, ◌<◌, ℕ, inl, inr, List, length, ◌≤◌, Option, Some, None, Result, Ok, Err, refl, sym, ap, subst, ◌∙◌, arith}
use Rattle.std.specs.Prelude.{Contains, encode_utf8_all, MatchOption}
use Rattle.std.specs.List.{AllByRecursion}
use Rattle.std.proofs.lemmas.Option.{slice_get_within, get_or_from_slice_get}
use Rattle.lexical_core.specs.Characters.{IsXmlChar}
use Rattle.lexical_core.specs.Rules.{number_of}
use Rattle.lexical_core.specs.declared.rule.Rule.{Rule}
use Rattle.lexical_core.specs.declared.rule.Rule.TheVariants.{BadText, BadLength, PatternFails, NotACode, Digits, OutOfRange}
use Rattle.data_types.specs.Leaf.{Leaf, Bytes, Code, IsLeaf, HasLeafForm, length_of}
use Rattle.data_types.specs.LeafAnswers.{leaf_of, IsLeafAnswer}
use Rattle.data_types.specs.LeafSteps.{IsShortKind}
use Rattle.data_types.specs.Limits.{IsPast}
use Rattle.data_types.specs.declared.leaf.LeafRef.{LeafRef}
use Rattle.data_types.specs.declared.kind.Kind.{Kind}
use Rattle.data_types.specs.declared.kind.Kind.TheVariants as kind
use Rattle.facets.specs.declared.simple.Simple.{Simple}
use Rattle.facets.specs.Facets.{HasLength}
use Rattle.facets.specs.Rules.{HasLengths, IsAsked, BreaksLeafRule, BreaksPattern, BreaksFirst}
use Rattle.facets.specs.LeafUnder.{IsCodeAt, IsLeafBy, GivesLeaf, IsAnswer}
use Rattle.facets.specs.LeafChecks.{IsCodeAnswer, limit_by}
use Rattle.facets.proofs.RuleLemmas.{has_form}

-- no rule comes before that of the form
pub form_first : (simple : Simple) (text : List ℕ) → (HasLeafForm simple.kind text → ⊥) → BreaksFirst simple text BadText
form_first simple text none = record { broken = none; first = lesser }
  where
    lesser : (other : Rule) → number_of other < 22 → BreaksLeafRule simple text other → ⊥
    lesser BadText lt b = omega (arith, lt)
    lesser BadLength lt b = omega (arith, lt)
    lesser PatternFails lt b = omega (arith, lt)
    lesser NotACode lt b = omega (arith, lt)
    lesser Digits lt b = omega (arith, lt)
    lesser OutOfRange lt b = omega (arith, lt)
    lesser rule lt b = b

-- ---- texts without codes

-- the rules that a text can break where there are no codes
pub text_breaks : (simple : Simple) (text : List ℕ) → simple.kind ≡ kind.Text → simple.codes ≡ None → AllByRecursion IsXmlChar text → (rule : Rule) → BreaksLeafRule simple text rule
    → ((rule ≡ BadLength) × (HasLength simple (length text) → ⊥)) ⊎ ((rule ≡ PatternFails) × BreaksPattern simple text)
text_breaks simple text e none characters BadText b =
    absurd (b (subst (λ (k : Kind). HasLeafForm k text) (sym e) (Bytes (encode_utf8_all text), (characters, refl))))
text_breaks simple text e none characters BadLength (has, leaf, is, short) = inl (refl, subst (λ (k : Kind). HasLength simple (length_of k text leaf) → ⊥) e short)
text_breaks simple text e none characters PatternFails b = inr (refl, b)
text_breaks simple text e none characters NotACode (is, codes, some, other) = absurd (let both : None ≡ Some codes = sym none ∙ some in cc)
text_breaks simple text e none characters Digits b = let decimal = b.0 in absurd cc
text_breaks simple text e none characters OutOfRange b = let decimal = b.0 in absurd cc
text_breaks simple text e none characters rule b = absurd b

pub length_broken : (simple : Simple) (text : List ℕ) → simple.kind ≡ kind.Text → simple.codes ≡ None → AllByRecursion IsXmlChar text → (HasLength simple (length text) → ⊥)
    → BreaksFirst simple text BadLength
length_broken simple text e none characters short = record {
  broken = (
    subst (λ (k : Kind). HasLengths k simple.codes) (sym e) none,
    Bytes (encode_utf8_all text),
    subst (λ (k : Kind). IsLeaf k text (Bytes (encode_utf8_all text))) (sym e) (characters, refl),
    subst (λ (k : Kind). HasLength simple (length_of k text (Bytes (encode_utf8_all text))) → ⊥) (sym e) short,
  );
  first = λ other lt b. elim (text_breaks simple text e none characters other b) [
    | inl own ↦ let number = ap number_of own.0 in omega (arith, lt, number)
    | inr own ↦ let number = ap number_of own.0 in omega (arith, lt, number)
  ];
}

pub pattern_broken : (simple : Simple) (text : List ℕ) → simple.kind ≡ kind.Text → simple.codes ≡ None → AllByRecursion IsXmlChar text → HasLength simple (length text)
    → BreaksPattern simple text → BreaksFirst simple text PatternFails
pattern_broken simple text e none characters fits broken = record {
  broken = broken;
  first = λ other lt b. elim (text_breaks simple text e none characters other b) [
    | inl own ↦ own.1 fits
    | inr own ↦ let number = ap number_of own.0 in omega (arith, lt, number)
  ];
}

-- the text spells its leaf where its length is within the bounds and its pattern has it
pub text_given : (simple : Simple) (text : List ℕ) (leaf : Leaf) → simple.kind ≡ kind.Text → simple.codes ≡ None → AllByRecursion IsXmlChar text → HasLength simple (length text)
    → (BreaksPattern simple text → ⊥) → IsLeaf kind.Text text leaf → GivesLeaf simple text leaf
text_given simple text leaf e none characters fits matches spelled = record {
  spelled = subst (λ (k : Kind). IsLeafBy k simple.codes text leaf) (sym e) (subst (λ (o : Option (List (List ℕ))). IsLeafBy kind.Text o text leaf) (sym none) spelled);
  sound = λ other b. elim (text_breaks simple text e none characters other b) [
    | inl own ↦ own.1 fits
    | inr own ↦ matches own.1
  ];
}

not_past : (max : Option ℕ) (n : ℕ) → MatchOption max (Unit {0}) (λ m. n ≤ m) → IsPast max n → ⊥
not_past None n within past = past
not_past (Some m) n within past = omega (arith, within, past)

-- the reader of a text within its greatest length has its leaf
pub text_answer : (simple : Simple) (text : List ℕ) (result : Result LeafRef Rule) → simple.kind ≡ kind.Text → simple.codes ≡ None → AllByRecursion IsXmlChar text
    → HasLength simple (length text) → (BreaksPattern simple text → ⊥) → IsLeafAnswer kind.Text simple.max text result → IsAnswer simple text result
text_answer simple text (Ok leaf) e none characters fits matches answer = text_given simple text (leaf_of leaf) e none characters fits matches answer.0
text_answer simple text (Err BadLength) e none characters fits matches (leaf, spelled, more) = absurd (not_past simple.max (length text) fits.most more)
text_answer simple text (Err BadText) e none characters fits matches answer = absurd (answer (Bytes (encode_utf8_all text), (characters, refl)))
text_answer simple text (Err Digits) e none characters fits matches answer = let decimal = answer.0 in absurd cc
text_answer simple text (Err rule) e none characters fits matches answer = absurd answer

-- ---- texts with codes

-- the rule that a text can break where there are codes
coded_breaks : (simple : Simple) (text : List ℕ) (codes : List (List ℕ)) → simple.kind ≡ kind.Text → simple.codes ≡ Some codes → AllByRecursion IsXmlChar text → (rule : Rule)
    → BreaksLeafRule simple text rule → (rule ≡ NotACode) × (Contains codes (encode_utf8_all text) → ⊥)
coded_breaks simple text codes e some characters BadText b =
    absurd (b (subst (λ (k : Kind). HasLeafForm k text) (sym e) (Bytes (encode_utf8_all text), (characters, refl))))
coded_breaks simple text codes e some characters BadLength b =
    let none : simple.codes ≡ None = subst (λ (k : Kind). HasLengths k simple.codes) e b.0 in absurd (let both : Some codes ≡ None = sym some ∙ none in cc)
coded_breaks simple text codes e some characters PatternFails (pattern, asked, is, ask, other) =
    let none = (subst (λ (k : Kind). IsAsked k simple.codes text asked) e ask).0 in absurd (let both : Some codes ≡ None = sym some ∙ none in cc)
coded_breaks simple text codes e some characters NotACode (is, own, same, none) =
    let one : own ≡ codes = let both : Some own ≡ Some codes = sym same ∙ some in cc in
    (refl, subst (λ cs. Contains cs (encode_utf8_all text) → ⊥) one none)
coded_breaks simple text codes e some characters Digits b = let decimal = b.0 in absurd cc
coded_breaks simple text codes e some characters OutOfRange b = let decimal = b.0 in absurd cc
coded_breaks simple text codes e some characters rule b = absurd b

-- the code at a place is one of the codes
code_there : (codes : List (List ℕ)) (text : List ℕ) (leaf : Leaf) → IsCodeAt codes text leaf → Contains codes (encode_utf8_all text)
code_there codes text (Code place) (characters, there) =
    (place, slice_get_within codes place (encode_utf8_all text) there, get_or_from_slice_get codes place (encode_utf8_all text) (encode_utf8_all text) there)
code_there codes text leaf there = absurd there

pub coded_answer : (simple : Simple) (text : List ℕ) (codes : List (List ℕ)) (result : Result LeafRef Rule) → simple.kind ≡ kind.Text → simple.codes ≡ Some codes
    → AllByRecursion IsXmlChar text → IsCodeAnswer codes text result → IsAnswer simple text result
coded_answer simple text codes (Ok leaf) e some characters there = record {
  spelled = subst (λ (k : Kind). IsLeafBy k simple.codes text (leaf_of leaf)) (sym e) (subst (λ (o : Option (List (List ℕ))). IsLeafBy kind.Text o text (leaf_of leaf)) (sym some) there);
  sound = λ other b. (coded_breaks simple text codes e some characters other b).1 (code_there codes text (leaf_of leaf) there);
}
coded_answer simple text codes (Err NotACode) e some characters none = record {
  broken = (e, codes, some, none);
  first = λ other lt b. let number = ap number_of (coded_breaks simple text codes e some characters other b).0 in omega (arith, lt, number);
}
coded_answer simple text codes (Err rule) e some characters none = absurd none

-- ---- truth values, dates and times

no_lengths : (k : Kind) (codes : Option (List (List ℕ))) → IsShortKind k → HasLengths k codes → ⊥
no_lengths kind.Text codes short has = short.no_text refl
no_lengths kind.Binary codes short has = short.no_binary refl
no_lengths k codes short has = has

-- the rule that the text of a truth value, a date or a time can break
pub short_breaks : (simple : Simple) (text : List ℕ) (leaf : Leaf) → IsShortKind simple.kind → IsLeaf simple.kind text leaf → (rule : Rule) → BreaksLeafRule simple text rule
    → (rule ≡ PatternFails) × BreaksPattern simple text
short_breaks simple text leaf short spelled BadText b = absurd (b (has_form simple.kind text leaf spelled))
short_breaks simple text leaf short spelled BadLength b = absurd (no_lengths simple.kind simple.codes short b.0)
short_breaks simple text leaf short spelled PatternFails b = (refl, b)
short_breaks simple text leaf short spelled NotACode b = absurd (short.no_text b.0)
short_breaks simple text leaf short spelled Digits b = absurd (short.no_decimal b.0)
short_breaks simple text leaf short spelled OutOfRange b = absurd (short.no_decimal b.0)
short_breaks simple text leaf short spelled rule b = absurd b

-- no limit is kept
pub short_limit : (k : Kind) (most : Option ℕ) (codes : Option (List (List ℕ))) → IsShortKind k → limit_by k most codes ≡ None
short_limit kind.Text most codes short = absurd (short.no_text refl)
short_limit kind.Binary most codes short = absurd (short.no_binary refl)
short_limit k most codes short = refl

leaf_by : (k : Kind) (codes : Option (List (List ℕ))) (text : List ℕ) (leaf : Leaf) → IsShortKind k → IsLeaf k text leaf → IsLeafBy k codes text leaf
leaf_by kind.Text codes text leaf short spelled = absurd (short.no_text refl)
leaf_by k codes text leaf short spelled = spelled

pub short_given : (simple : Simple) (text : List ℕ) (leaf : Leaf) → IsShortKind simple.kind → IsLeaf simple.kind text leaf → (BreaksPattern simple text → ⊥) → GivesLeaf simple text leaf
short_given simple text leaf short spelled matches = record {
  spelled = leaf_by simple.kind simple.codes text leaf short spelled;
  sound = λ other b. matches (short_breaks simple text leaf short spelled other b).1;
}

pub short_broken : (simple : Simple) (text : List ℕ) (leaf : Leaf) → IsShortKind simple.kind → IsLeaf simple.kind text leaf → BreaksPattern simple text → BreaksFirst simple text PatternFails
short_broken simple text leaf short spelled broken = record {
  broken = broken;
  first = λ other lt b. let number = ap number_of (short_breaks simple text leaf short spelled other b).0 in omega (arith, lt, number);
}

-- where the reader gives no leaf, the characters have not the form
pub short_refused : (simple : Simple) (text : List ℕ) (rule : Rule) → IsShortKind simple.kind → IsLeafAnswer simple.kind None text (Err rule) → BreaksFirst simple text rule
short_refused simple text BadText short none = form_first simple text none
short_refused simple text BadLength short (leaf, spelled, more) = absurd more
short_refused simple text Digits short answer = absurd (short.no_decimal answer.0)
short_refused simple text rule short answer = absurd answer
