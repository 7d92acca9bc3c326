-- What the rules that a text breaks say of the leaf that it spells.
use Rattle.std.proofs.Common.{◌≡◌, ◌⊎◌, ◌≤◌, inl, inr, List, length, ℕ, refl, sym, ap, subst, arith}
use Rattle.lexical_core.specs.Decimals.{Number as DecimalNumber}
use Rattle.lexical_core.specs.Rules.{number_of}
use Rattle.lexical_core.specs.declared.rule.Rule.{Rule}
use Rattle.lexical_core.specs.declared.rule.Rule.TheVariants.{BadText, BadLength, PatternFails, NotACode, Digits, OutOfRange}
use Rattle.data_types.specs.Leaf.{Leaf, Bytes, Number, IsDecimalLeaf, IsLeaf, HasDecimalForm, HasLeafForm, length_of}
use Rattle.data_types.specs.declared.kind.Kind.{Kind}
use Rattle.data_types.specs.declared.kind.Kind.TheVariants as kind
use Rattle.data_types.proofs.LeafLaws.{one_leaf}
use Rattle.facets.specs.declared.simple.Simple.{Simple}
use Rattle.facets.specs.Facets.{HasLength, HasDigits, IsInRange}
use Rattle.facets.specs.Rules.{HasLengths, IsAsked, BreaksLeafRule, BreaksFirst}
use Rattle.facets.specs.LeafUnder.{IsLeafBy, GivesLeaf}

-- what spells a decimal has the form of one
decimal_form : (text : List ℕ) (leaf : Leaf) → IsDecimalLeaf text leaf → HasDecimalForm text
decimal_form text (Number n) (collapsed, is, fits, (negative, p, spell, e)) = (collapsed, is, (negative, p, spell.parts, e))
decimal_form text leaf h = absurd h

-- what spells a leaf has the form of its kind
pub has_form : (k : Kind) (text : List ℕ) (leaf : Leaf) → IsLeaf k text leaf → HasLeafForm k text
has_form kind.Decimal text leaf h = decimal_form text leaf h
has_form k text leaf h = (leaf, h)

-- the numbers that a text spells are the same
pub one_number : (text : List ℕ) (m n : DecimalNumber) → IsLeaf kind.Decimal text (Number m) → IsLeaf kind.Decimal text (Number n) → m ≡ n
one_number text m n h g = let same : Number m ≡ Number n = one_leaf kind.Decimal text (Number m) (Number n) h g in cc

-- the rules that the text of a number can break: one of its digits, and one of its bounds
pub number_breaks : (simple : Simple) (n : DecimalNumber) (text : List ℕ) → simple.kind ≡ kind.Decimal → IsLeaf kind.Decimal text (Number n) → (rule : Rule) → BreaksLeafRule simple text rule
    → ((rule ≡ Digits) × (HasDigits simple n → ⊥)) ⊎ ((rule ≡ OutOfRange) × (IsInRange simple n → ⊥))
number_breaks simple n text e spelled BadText b = absurd (b (subst (λ (k : Kind). HasLeafForm k text) (sym e) (decimal_form text (Number n) spelled)))
number_breaks simple n text e spelled BadLength b = absurd (subst (λ (k : Kind). HasLengths k simple.codes) e b.0)
number_breaks simple n text e spelled PatternFails (pattern, asked, is, ask, none) = absurd (subst (λ (k : Kind). IsAsked k simple.codes text asked) e ask)
number_breaks simple n text e spelled NotACode b = let text = b.0 in absurd cc
number_breaks simple n text e spelled Digits b = inl (refl, b.2 n spelled)
number_breaks simple n text e spelled OutOfRange (decimal, m, is, none) = inr (refl, λ inside. none (subst (IsInRange simple) (one_number text n m spelled is) inside))
number_breaks simple n text e spelled rule b = absurd b

-- the rule that the text of octets can break: that of their length
pub octets_break : (simple : Simple) (octets text : List ℕ) → simple.kind ≡ kind.Binary → IsLeaf kind.Binary text (Bytes octets) → (rule : Rule) → BreaksLeafRule simple text rule
    → (rule ≡ BadLength) × (HasLength simple (length octets) → ⊥)
octets_break simple octets text e spelled BadText b = absurd (b (subst (λ (k : Kind). HasLeafForm k text) (sym e) (has_form kind.Binary text (Bytes octets) spelled)))
octets_break simple octets text e spelled BadLength (has, leaf, is, none) =
    let own : IsLeaf kind.Binary text leaf = subst (λ (k : Kind). IsLeaf k text leaf) e is in
    let same : Bytes octets ≡ leaf = one_leaf kind.Binary text (Bytes octets) leaf spelled own in
    let short : HasLength simple (length_of kind.Binary text leaf) → ⊥ = subst (λ (k : Kind). HasLength simple (length_of k text leaf) → ⊥) e none in
    (refl, subst (λ (l : Leaf). HasLength simple (length_of kind.Binary text l) → ⊥) (sym same) short)
octets_break simple octets text e spelled PatternFails (pattern, asked, is, ask, none) = absurd (subst (λ (k : Kind). IsAsked k simple.codes text asked) e ask)
octets_break simple octets text e spelled NotACode b = let text = b.0 in absurd cc
octets_break simple octets text e spelled Digits b = let decimal = b.0 in absurd cc
octets_break simple octets text e spelled OutOfRange b = let decimal = b.0 in absurd cc
octets_break simple octets text e spelled rule b = absurd b

-- a decimal that is no number breaks no rule before that of its digits
no_less_digits : (simple : Simple) (text : List ℕ) → simple.kind ≡ kind.Decimal → HasLeafForm kind.Decimal text → (rule : Rule) → BreaksLeafRule simple text rule → 26 ≤ number_of rule
no_less_digits simple text e form BadText b = absurd (b (subst (λ (k : Kind). HasLeafForm k text) (sym e) form))
no_less_digits simple text e form BadLength b = absurd (subst (λ (k : Kind). HasLengths k simple.codes) e b.0)
no_less_digits simple text e form PatternFails (pattern, asked, is, ask, none) = absurd (subst (λ (k : Kind). IsAsked k simple.codes text asked) e ask)
no_less_digits simple text e form NotACode b = let text = b.0 in absurd cc
no_less_digits simple text e form Digits b = omega arith
no_less_digits simple text e form OutOfRange b = omega arith
no_less_digits simple text e form rule b = absurd b

pub no_number_first : (simple : Simple) (text : List ℕ) → simple.kind ≡ kind.Decimal → HasLeafForm kind.Decimal text → ((leaf : Leaf) → IsLeaf kind.Decimal text leaf → ⊥)
    → BreaksFirst simple text Digits
no_number_first simple text e form none = record {
  broken = (e, form, λ n is digits. none (Number n) is);
  first = λ other lt b. let least = no_less_digits simple text e form other b in omega (arith, lt, least);
}

-- ---- what a text is that spells a number or octets

pub number_given : (simple : Simple) (n : DecimalNumber) (text : List ℕ) → simple.kind ≡ kind.Decimal → IsLeaf kind.Decimal text (Number n) → HasDigits simple n → IsInRange simple n
    → GivesLeaf simple text (Number n)
number_given simple n text e spelled digits inside = record {
  spelled = subst (λ (k : Kind). IsLeafBy k simple.codes text (Number n)) (sym e) spelled;
  sound = λ rule b. elim (number_breaks simple n text e spelled rule b) [
    | inl many ↦ many.1 digits
    | inr out ↦ out.1 inside
  ];
}

pub many_digits : (simple : Simple) (n : DecimalNumber) (text : List ℕ) → simple.kind ≡ kind.Decimal → IsLeaf kind.Decimal text (Number n) → (HasDigits simple n → ⊥)
    → BreaksFirst simple text Digits
many_digits simple n text e spelled many = record {
  broken = (e, decimal_form text (Number n) spelled, λ m is digits. many (subst (HasDigits simple) (one_number text m n is spelled) digits));
  first = λ other lt b. elim (number_breaks simple n text e spelled other b) [
    | inl is ↦ let same = ap number_of is.0 in omega (arith, lt, same)
    | inr is ↦ let same = ap number_of is.0 in omega (arith, lt, same)
  ];
}

pub out_of_range : (simple : Simple) (n : DecimalNumber) (text : List ℕ) → simple.kind ≡ kind.Decimal → IsLeaf kind.Decimal text (Number n) → HasDigits simple n → (IsInRange simple n → ⊥)
    → BreaksFirst simple text OutOfRange
out_of_range simple n text e spelled digits out = record {
  broken = (e, n, spelled, out);
  first = λ other lt b. elim (number_breaks simple n text e spelled other b) [
    | inl is ↦ is.1 digits
    | inr is ↦ let same = ap number_of is.0 in omega (arith, lt, same)
  ];
}

pub octets_given : (simple : Simple) (octets text : List ℕ) → simple.kind ≡ kind.Binary → IsLeaf kind.Binary text (Bytes octets) → HasLength simple (length octets)
    → GivesLeaf simple text (Bytes octets)
octets_given simple octets text e spelled within = record {
  spelled = subst (λ (k : Kind). IsLeafBy k simple.codes text (Bytes octets)) (sym e) spelled;
  sound = λ rule b. (octets_break simple octets text e spelled rule b).1 within;
}

pub octets_past : (simple : Simple) (octets text : List ℕ) → simple.kind ≡ kind.Binary → IsLeaf kind.Binary text (Bytes octets) → (HasLength simple (length octets) → ⊥)
    → BreaksFirst simple text BadLength
octets_past simple octets text e spelled past = record {
  broken = (
    subst (λ (k : Kind). HasLengths k simple.codes) (sym e) tt,
    Bytes octets,
    subst (λ (k : Kind). IsLeaf k text (Bytes octets)) (sym e) spelled,
    subst (λ (k : Kind). HasLength simple (length_of k text (Bytes octets)) → ⊥) (sym e) past,
  );
  first = λ other lt b. let same = ap number_of (octets_break simple octets text e spelled other b).0 in omega (arith, lt, same);
}
