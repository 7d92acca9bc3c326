-- The leaves of truth values, dates and times by their collapsed texts.
use Rattle.std.proofs.Common.{◌≢◌, ℕ, Bool, List, Option, refl, subst}
use Rattle.data_types.specs.declared.kind.Kind.{Kind}
use Rattle.data_types.specs.declared.kind.Kind.TheVariants.{Text, Decimal, Boolean, Binary, Date, DateTime, Time, Year, YearMonth, MonthDay, Month, Day, Envelope}
use Rattle.data_types.specs.WhiteSpace.{IsCollapsed}
use Rattle.data_types.specs.Booleans.{IsBooleanText}
use Rattle.data_types.specs.Dates.{IsDateText}
use Rattle.data_types.specs.ShortTexts.{IsShort}
use Rattle.data_types.specs.Leaf.{Leaf, Bytes, Flag, IsBooleanLeaf, IsDateLeaf, IsLeaf, HasLeafForm, length_of}
use Rattle.data_types.specs.Limits.{IsWithin}
use Rattle.data_types.specs.LeafSteps.{IsShortKind}
use Rattle.data_types.proofs.CollapseLaw.{one_collapsed}
use Rattle.data_types.proofs.KeptLemmas.{none_within}
use Rattle.data_types.proofs.VisibleTexts.{date_short, boolean_short}

boolean_in : (chars text : List ℕ) (leaf : Leaf) → IsCollapsed chars text → IsBooleanLeaf chars leaf → (flag : Bool) × IsBooleanText flag text
boolean_in chars text (Flag flag) collapsed (t, c, is) = (flag, subst (IsBooleanText flag) (one_collapsed chars t text c collapsed) is)
boolean_in chars text leaf collapsed h = absurd h

-- a form of a truth value is that of its collapsed text
pub boolean_form : (chars text : List ℕ) → IsCollapsed chars text → HasLeafForm Boolean chars → (flag : Bool) × IsBooleanText flag text
boolean_form chars text collapsed (leaf, h) = boolean_in chars text leaf collapsed h

date_in : (kind : Kind) (chars text : List ℕ) (leaf : Leaf) → IsCollapsed chars text → IsDateLeaf kind chars leaf → IsDateText kind text
date_in kind chars text (Bytes bytes) collapsed h = subst (IsDateText kind) (one_collapsed chars bytes text h.0 collapsed) h.1
date_in kind chars text leaf collapsed h = absurd h

-- a form of a date or a time is that of its collapsed text
pub date_form : (kind : Kind) (chars text : List ℕ) → IsShortKind kind → kind ≢ Boolean → IsCollapsed chars text → HasLeafForm kind chars → IsDateText kind text
date_form Text chars text short other collapsed h = absurd (short.no_text refl)
date_form Decimal chars text short other collapsed h = absurd (short.no_decimal refl)
date_form Boolean chars text short other collapsed h = absurd (other refl)
date_form Binary chars text short other collapsed h = absurd (short.no_binary refl)
date_form Date chars text short other collapsed (leaf, h) = date_in Date chars text leaf collapsed h
date_form DateTime chars text short other collapsed (leaf, h) = date_in DateTime chars text leaf collapsed h
date_form Time chars text short other collapsed (leaf, h) = date_in Time chars text leaf collapsed h
date_form Year chars text short other collapsed (leaf, h) = date_in Year chars text leaf collapsed h
date_form YearMonth chars text short other collapsed (leaf, h) = date_in YearMonth chars text leaf collapsed h
date_form MonthDay chars text short other collapsed (leaf, h) = date_in MonthDay chars text leaf collapsed h
date_form Month chars text short other collapsed (leaf, h) = date_in Month chars text leaf collapsed h
date_form Day chars text short other collapsed (leaf, h) = date_in Day chars text leaf collapsed h
date_form Envelope chars text short other collapsed (leaf, h) = absurd h

-- a date's collapsed text spells its leaf
pub date_leaf : (kind : Kind) (chars text : List ℕ) → IsShortKind kind → kind ≢ Boolean → IsCollapsed chars text → IsDateText kind text → IsLeaf kind chars (Bytes text)
date_leaf Text chars text short other collapsed h = absurd (short.no_text refl)
date_leaf Decimal chars text short other collapsed h = absurd (short.no_decimal refl)
date_leaf Boolean chars text short other collapsed h = absurd (other refl)
date_leaf Binary chars text short other collapsed h = absurd (short.no_binary refl)
date_leaf Date chars text short other collapsed h = (collapsed, h)
date_leaf DateTime chars text short other collapsed h = (collapsed, h)
date_leaf Time chars text short other collapsed h = (collapsed, h)
date_leaf Year chars text short other collapsed h = (collapsed, h)
date_leaf YearMonth chars text short other collapsed h = (collapsed, h)
date_leaf MonthDay chars text short other collapsed h = (collapsed, h)
date_leaf Month chars text short other collapsed h = (collapsed, h)
date_leaf Day chars text short other collapsed h = (collapsed, h)
date_leaf Envelope chars text short other collapsed (fixed, fraction, zone, e, form, parts, f, z) = absurd parts

-- the collapsed text of a leaf of these kinds is short
pub short_form : (kind : Kind) (chars text : List ℕ) → IsShortKind kind → IsCollapsed chars text → HasLeafForm kind chars → IsShort text
short_form Text chars text short collapsed h = absurd (short.no_text refl)
short_form Decimal chars text short collapsed h = absurd (short.no_decimal refl)
short_form Boolean chars text short collapsed h = let b = boolean_form chars text collapsed h in boolean_short b.0 text b.1
short_form Binary chars text short collapsed h = absurd (short.no_binary refl)
short_form Date chars text short collapsed (leaf, h) = date_short Date text (date_in Date chars text leaf collapsed h)
short_form DateTime chars text short collapsed (leaf, h) = date_short DateTime text (date_in DateTime chars text leaf collapsed h)
short_form Time chars text short collapsed (leaf, h) = date_short Time text (date_in Time chars text leaf collapsed h)
short_form Year chars text short collapsed (leaf, h) = date_short Year text (date_in Year chars text leaf collapsed h)
short_form YearMonth chars text short collapsed (leaf, h) = date_short YearMonth text (date_in YearMonth chars text leaf collapsed h)
short_form MonthDay chars text short collapsed (leaf, h) = date_short MonthDay text (date_in MonthDay chars text leaf collapsed h)
short_form Month chars text short collapsed (leaf, h) = date_short Month text (date_in Month chars text leaf collapsed h)
short_form Day chars text short collapsed (leaf, h) = date_short Day text (date_in Day chars text leaf collapsed h)
short_form Envelope chars text short collapsed (leaf, h) = absurd h

-- a leaf of these kinds has no length, and so is within any limit
pub short_within : (kind : Kind) (most : Option ℕ) (chars : List ℕ) (leaf : Leaf) → IsShortKind kind → IsWithin most (length_of kind chars leaf)
short_within Text most chars leaf short = absurd (short.no_text refl)
short_within Decimal most chars leaf short = absurd (short.no_decimal refl)
short_within Boolean most chars leaf short = none_within most
short_within Binary most chars leaf short = absurd (short.no_binary refl)
short_within Date most chars leaf short = none_within most
short_within DateTime most chars leaf short = none_within most
short_within Time most chars leaf short = none_within most
short_within Year most chars leaf short = none_within most
short_within YearMonth most chars leaf short = none_within most
short_within MonthDay most chars leaf short = none_within most
short_within Month most chars leaf short = none_within most
short_within Day most chars leaf short = none_within most
short_within Envelope most chars leaf short = none_within most
