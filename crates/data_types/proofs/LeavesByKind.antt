-- What is a leaf of each kind, whatever characters spell it.
use Rattle.std.proofs.Common.{◌≢◌, ℕ, ◌↔◌, Bool, List, refl, sym}
use Rattle.base64.specs.Engines.{standard}
use Rattle.base64.specs.GeneralPurpose.{IsBytes, encode_of}
use Rattle.lexical_core.specs.Characters.{IsXmlText}
use Rattle.lexical_core.specs.Decimals.{Number as DecimalNumber, IsDecimal, decimal_spelling}
use Rattle.lexical_core.specs.CanonicalDecimals.{canonical_parts}
use Rattle.lexical_core.proofs.Written.{canonical_is}
use Rattle.data_types.specs.declared.kind.Kind.{Kind}
use Rattle.data_types.specs.declared.kind.Kind.TheVariants.{Text, Decimal, Boolean, Binary, Date, DateTime, Time, Year, YearMonth, MonthDay, Month, Day, Envelope}
use Rattle.data_types.specs.Booleans.{boolean_text}
use Rattle.data_types.specs.Dates.{IsDateText}
use Rattle.data_types.specs.Leaf.{Bytes, Number, Flag, IsDateLeaf, IsLeafOf}
use Rattle.data_types.proofs.VisibleTexts.{date_visible}
use Rattle.data_types.proofs.CanonicalLemmas.{own, no_spaces, octets_visible, spells_decimal, spells_boolean}

pub text_leaves : (bytes : List ℕ) → IsLeafOf Text (Bytes bytes) ↔ IsXmlText bytes
text_leaves bytes = (λ (chars, (are, e)). (chars, are, sym e), λ (chars, are, e). (chars, (are, sym e)))

pub decimal_leaves : (n : DecimalNumber) → IsLeafOf Decimal (Number n) ↔ IsDecimal n
decimal_leaves n = (
  λ (chars, (text, collapsed, is, spells)). is,
  λ is. let chars = decimal_spelling (canonical_parts n) in (chars, spells_decimal (Number n) chars (is, canonical_is n is)),
)

pub flag_leaves : (flag : Bool) → IsLeafOf Boolean (Flag flag)
flag_leaves flag = (boolean_text flag, spells_boolean (Flag flag) (boolean_text flag) refl)

pub binary_leaves : (octets : List ℕ) → IsLeafOf Binary (Bytes octets) ↔ IsBytes octets
binary_leaves octets = (
  λ (chars, (text, collapsed, (bytes, is))). bytes,
  λ bytes. let chars = encode_of standard octets in let v = octets_visible octets bytes in (chars, (chars, own chars v, (bytes, no_spaces chars v))),
)

date_own : (kind : Kind) (text : List ℕ) → ((chars : List ℕ) × IsDateLeaf kind chars (Bytes text)) ↔ IsDateText kind text
date_own kind text = (λ (chars, (collapsed, is)). is, λ is. (text, (own text (date_visible kind text is).0, is)))

-- no leaf and no date
neither : (kind : Kind) (text : List ℕ) → (IsLeafOf kind (Bytes text) → ⊥) → (IsDateText kind text → ⊥) → IsLeafOf kind (Bytes text) ↔ IsDateText kind text
neither kind text leaf date = (λ h. absurd (leaf h), λ h. absurd (date h))

pub date_leaves : (kind : Kind) (text : List ℕ) → kind ≢ Text → kind ≢ Binary → IsLeafOf kind (Bytes text) ↔ IsDateText kind text
date_leaves Text text t b = absurd (t refl)
date_leaves Decimal text t b = neither Decimal text (λ (chars, h). h) (λ (fixed, fraction, zone, e, form, parts, f, z). parts)
date_leaves Boolean text t b = neither Boolean text (λ (chars, h). h) (λ (fixed, fraction, zone, e, form, parts, f, z). parts)
date_leaves Binary text t b = absurd (b refl)
date_leaves Date text t b = date_own Date text
date_leaves DateTime text t b = date_own DateTime text
date_leaves Time text t b = date_own Time text
date_leaves Year text t b = date_own Year text
date_leaves YearMonth text t b = date_own YearMonth text
date_leaves MonthDay text t b = date_own MonthDay text
date_leaves Month text t b = date_own Month text
date_leaves Day text t b = date_own Day text
date_leaves Envelope text t b = neither Envelope text (λ (chars, h). h) (λ (fixed, fraction, zone, e, form, parts, f, z). parts)
