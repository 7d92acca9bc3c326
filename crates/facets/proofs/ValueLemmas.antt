-- Whether a value that is no text fits a simple type: its canonical text, and the one rule that this breaks.
use Rattle.std.proofs.Common.{◌≡◌, inl, ℕ, List, [], length, refl, sym, subst}
use Rattle.base64.specs.GeneralPurpose.{IsBytes}
use Rattle.lexical_core.specs.Decimals.{Number as DecimalNumber, IsDecimal, decimal_spelling}
use Rattle.lexical_core.specs.CanonicalDecimals.{canonical_parts}
use Rattle.lexical_core.specs.declared.rule.Rule.TheVariants.{BadLength, Digits, OutOfRange}
use Rattle.lexical_core.proofs.Written.{canonical_is}
use Rattle.data_types.specs.Leaf.{Bytes, Number, IsLeaf}
use Rattle.data_types.specs.Binaries.{binary_text}
use Rattle.data_types.specs.Canonical.{IsCanonicalLeaf}
use Rattle.data_types.specs.declared.kind.Kind.{Kind}
use Rattle.data_types.specs.declared.kind.Kind.TheVariants as kind
use Rattle.data_types.proofs.CollapseLaw.{own_collapsed}
use Rattle.data_types.proofs.VisibleTexts.{no_space}
use Rattle.data_types.proofs.CanonicalLemmas.{number_visible, octets_visible, no_spaces}
use Rattle.facets.specs.declared.simple.Simple.{Simple}
use Rattle.facets.specs.Facets.{HasLength, HasDigits, IsInRange}
use Rattle.facets.specs.LeafUnder.{IsCanonicalBy, IsCanonicalUnder, Fits, BreaksAs}
use Rattle.facets.proofs.RuleLemmas.{number_given, many_digits, out_of_range, octets_given, octets_past}

-- ---- numbers

-- the canonical text of a number
number_text : DecimalNumber → List ℕ
number_text n = decimal_spelling (canonical_parts n)

number_canonical : (n : DecimalNumber) → IsDecimal n → IsCanonicalLeaf kind.Decimal (Number n) (number_text n)
unfolding number_text
number_canonical n is = (is, canonical_is n is)

number_spelled : (n : DecimalNumber) → IsDecimal n → IsLeaf kind.Decimal (number_text n) (Number n)
unfolding number_text
number_spelled n is =
    let text = canonical_is n is in
    (number_text n, own_collapsed (number_text n) (no_space (number_text n) (number_visible (number_text n) n text)), is, (text.0, text.1, text.2, text.4))

-- under a simple type that is decimal
at_decimal : (simple : Simple) (n : DecimalNumber) (text : List ℕ) → simple.kind ≡ kind.Decimal → IsCanonicalLeaf kind.Decimal (Number n) text → IsCanonicalUnder simple (Number n) text
at_decimal simple n text e h = subst (λ (k : Kind). IsCanonicalBy k simple.codes (Number n) text) (sym e) h

pub number_fits : (simple : Simple) (n : DecimalNumber) → IsDecimal n → simple.kind ≡ kind.Decimal → HasDigits simple n → IsInRange simple n → Fits simple (Number n)
number_fits simple n is e digits inside = (
  number_text n,
  at_decimal simple n (number_text n) e (number_canonical n is),
  number_given simple n (number_text n) e (number_spelled n is) digits inside,
)

pub digits_break : (simple : Simple) (n : DecimalNumber) → IsDecimal n → simple.kind ≡ kind.Decimal → (HasDigits simple n → ⊥) → BreaksAs simple (Number n) Digits
digits_break simple n is e many = inl (
  number_text n,
  at_decimal simple n (number_text n) e (number_canonical n is),
  many_digits simple n (number_text n) e (number_spelled n is) many,
)

pub range_breaks : (simple : Simple) (n : DecimalNumber) → IsDecimal n → simple.kind ≡ kind.Decimal → HasDigits simple n → (IsInRange simple n → ⊥) → BreaksAs simple (Number n) OutOfRange
range_breaks simple n is e digits out = inl (
  number_text n,
  at_decimal simple n (number_text n) e (number_canonical n is),
  out_of_range simple n (number_text n) e (number_spelled n is) digits out,
)

-- ---- octets

octets_spelled : (octets : List ℕ) → IsBytes octets → IsLeaf kind.Binary (binary_text octets) (Bytes octets)
octets_spelled octets bytes =
    let visible = octets_visible octets bytes in
    (binary_text octets, own_collapsed (binary_text octets) (no_space (binary_text octets) visible), (bytes, no_spaces (binary_text octets) visible))

octets_canonical : (simple : Simple) (octets : List ℕ) → simple.kind ≡ kind.Binary → IsCanonicalUnder simple (Bytes octets) (binary_text octets)
octets_canonical simple octets e = subst (λ (k : Kind). IsCanonicalBy k simple.codes (Bytes octets) (binary_text octets)) (sym e) refl

pub octets_fit : (simple : Simple) (octets : List ℕ) → IsBytes octets → simple.kind ≡ kind.Binary → HasLength simple (length octets) → Fits simple (Bytes octets)
octets_fit simple octets bytes e within = (
  binary_text octets,
  octets_canonical simple octets e,
  octets_given simple octets (binary_text octets) e (octets_spelled octets bytes) within,
)

pub length_breaks : (simple : Simple) (octets : List ℕ) → IsBytes octets → simple.kind ≡ kind.Binary → (HasLength simple (length octets) → ⊥) → BreaksAs simple (Bytes octets) BadLength
length_breaks simple octets bytes e past = inl (
  binary_text octets,
  octets_canonical simple octets e,
  octets_past simple octets (binary_text octets) e (octets_spelled octets bytes) past,
)
