-- The texts of dates and times, collapsed: XML Schema part 2 §3.2.7 to §3.2.14. Cut off are years outside 0001 to 9999, the
-- hour 24, the second 60 and more than nine digits of a second.
use Rattle.std.specs.Prelude.{◌≡◌, ◌≢◌, ℕ, ◌+◌, ◌-◌, ◌*◌, ◌<◌, ◌≤◌, ◌⊎◌, List, [], ◌∷◌, ◌++◌, length, slice_index, drop, pos, codes, Bool, true, false}
use Rattle.std.specs.Str.Parse.{AllDigits}
use Rattle.std.specs.Char.{digit_value}
use Rattle.jiff_core.specs.Calendar.{IsDate}
use Rattle.data_types.specs.declared.kind.Kind.{Kind}
use Rattle.data_types.specs.declared.kind.Kind.TheVariants.{Text, Decimal, Boolean, Binary, Date, DateTime, Time, Year, YearMonth, MonthDay, Month, Day, Envelope}
use Rattle.data_types.specs.Kinds.{form_of, has_seconds}

-- the byte may stand where the form has this one
abbrev pub FitsPlace : ℕ → ℕ → Type 0
FitsPlace place byte = ((place ≡ 100) × (digit_value byte < 10)) ⊎ ((place ≢ 100) × (byte ≡ place))

-- the text has this form, place by place
pub record HasForm (form text : List ℕ) : Type 0 where
  pub same_length : length text ≡ length form
  pub each : (k : ℕ) → k < length form → FitsPlace (slice_index form k) (slice_index text k)

-- the number of the two or four digits from that place on
abbrev pub two_at : List ℕ → ℕ → ℕ
two_at text at = (slice_index text at - 48) * 10 + (slice_index text (at + 1) - 48)

abbrev pub four_at : List ℕ → ℕ → ℕ
four_at text at = two_at text at * 100 + two_at text (at + 2)

-- the calendar has this day, and its year is 0001 to 9999
abbrev pub IsDay : ℕ → ℕ → ℕ → Type 0
IsDay year month day = (1 ≤ year) × IsDate (pos year) (pos month) (pos day)

-- the time of a day, hours first
abbrev pub IsClock : List ℕ → ℕ → Type 0
IsClock text at = (two_at text at < 24) × (two_at text (at + 3) < 60) × (two_at text (at + 6) < 60)

-- the numbers of the fixed part are in their ranges; a day without its year stands in a leap year
abbrev pub HasParts : Kind → List ℕ → Type 0
HasParts Date text = IsDay (four_at text 0) (two_at text 5) (two_at text 8)
HasParts DateTime text = IsDay (four_at text 0) (two_at text 5) (two_at text 8) × IsClock text 11
HasParts Time text = IsClock text 0
HasParts Year text = 1 ≤ four_at text 0
HasParts YearMonth text = (1 ≤ four_at text 0) × (1 ≤ two_at text 5) × (two_at text 5 ≤ 12)
HasParts MonthDay text = IsDay 2000 (two_at text 2) (two_at text 5)
HasParts Month text = (1 ≤ two_at text 2) × (two_at text 2 ≤ 12)
HasParts Day text = (1 ≤ two_at text 3) × (two_at text 3 ≤ 31)
HasParts Text text = ⊥
HasParts Decimal text = ⊥
HasParts Boolean text = ⊥
HasParts Binary text = ⊥
HasParts Envelope text = ⊥

-- the digits of a second after its point, one to nine, where there are any
abbrev pub IsFraction : Bool → List ℕ → Type 0
IsFraction false text = text ≡ []
IsFraction true text = (text ≡ []) ⊎ ((digits : List ℕ) × AllDigits 10 digits × (1 ≤ length digits) × (length digits ≤ 9) × (text ≡ 46 ∷ digits))

-- a sign, hours and minutes, at most 14:00
pub record IsOffset (text : List ℕ) : Type 0 where
  pub sign : (slice_index text 0 ≡ 43) ⊎ (slice_index text 0 ≡ 45)
  pub form : HasForm (codes "dd:dd") (drop 1 text)
  pub minutes : two_at text 4 ≤ 59
  pub most : two_at text 1 * 60 + two_at text 4 ≤ 14 * 60

-- a time zone or none: §3.2.7.3
abbrev pub IsZone : List ℕ → Type 0
IsZone text = (text ≡ []) ⊎ (text ≡ 90 ∷ []) ⊎ IsOffset text

-- the collapsed text is one of this kind of date or time
abbrev pub IsDateText : Kind → List ℕ → Type 0
IsDateText kind text =
    (fixed fraction zone : List ℕ) × (text ≡ fixed ++ (fraction ++ zone)) × HasForm (form_of kind) fixed × HasParts kind fixed
    × IsFraction (has_seconds kind) fraction × IsZone zone
