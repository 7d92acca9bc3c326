-- The lexical spaces of dates and times, whole: XML Schema part 2 §3.2.7 to §3.2.14. No year, hour, second or digit of a second is cut
-- off here. The texts are collapsed, §4.3.6.
use Rattle.std.specs.Prelude.{◌≡◌, ◌≢◌, ◌⊎◌, ℕ, ◌<◌, ◌≤◌, ◌%◌, Bool, not, ◌&&◌, ◌||◌, ◌==◌, if◌then◌else◌, List, [], ◌∷◌, ◌++◌, length, slice_index}
use Rattle.std.specs.Str.Parse.{AllDigits, digits_value}
use Rattle.data_types.specs.declared.kind.Kind.{Kind}
use Rattle.data_types.specs.declared.kind.Kind.TheVariants as kind

-- a numeral of two digits
pub record IsTwoDigits (text : List ℕ) : Type 0 where
  pub digits : AllDigits 10 text
  pub two : length text ≡ 2

-- '-'?
abbrev pub IsMinus : List ℕ → Type 0
IsMinus text = (text ≡ []) ⊎ (text ≡ 45 ∷ [])

-- yyyy: four digits or more, where there are more with no zero in front, and not 0000: §3.2.7.1
pub record IsYearNumeral (text : List ℕ) : Type 0 where
  pub digits : AllDigits 10 text
  pub least : 4 ≤ length text
  pub no_zero : 4 < length text → slice_index text 0 ≢ 48
  pub some : 0 < digits_value 10 text

-- mm: a month
pub record IsMonthNumeral (text : List ℕ) : Type 0 where
  pub two : IsTwoDigits text
  pub least : 1 ≤ digits_value 10 text
  pub most : digits_value 10 text ≤ 12

-- each fourth year, but of the hundreds each fourth; a minus before the year changes nothing: appendix E, maximumDayInMonthFor
abbrev pub is_leap : ℕ → Bool
is_leap year = (year % 4 == 0) && (not (year % 100 == 0) || (year % 400 == 0))

-- the last day of a month of a year: appendix E, maximumDayInMonthFor
abbrev pub maximum_day : ℕ → ℕ → ℕ
maximum_day year month =
    if month == 2 then (if is_leap year then 29 else 28)
    else (if (month == 4) || (month == 6) || (month == 9) || (month == 11) then 30 else 31)

-- dd: a day of that month of that year
pub record IsDayNumeral (year month : ℕ) (text : List ℕ) : Type 0 where
  pub two : IsTwoDigits text
  pub least : 1 ≤ digits_value 10 text
  pub most : digits_value 10 text ≤ maximum_day year month

-- '-'? yyyy '-' mm '-' dd: §3.2.7.1
pub record IsDatePortion (text : List ℕ) : Type 0 where
  pub minus : List ℕ
  pub year : List ℕ
  pub month : List ℕ
  pub day : List ℕ
  pub text_is : text ≡ minus ++ (year ++ (45 ∷ (month ++ (45 ∷ day))))
  pub is_minus : IsMinus minus
  pub is_year : IsYearNumeral year
  pub is_month : IsMonthNumeral month
  pub is_day : IsDayNumeral (digits_value 10 year) (digits_value 10 month) day

-- ('.' s+)?, with the digits s+: §3.2.7.1
abbrev pub IsSecondFraction : List ℕ → List ℕ → Type 0
IsSecondFraction digits text = AllDigits 10 digits × (((digits ≡ []) × (text ≡ [])) ⊎ ((1 ≤ length digits) × (text ≡ 46 ∷ digits)))

-- before the end of a day; the second 60 is a leap second, which any minute of a local time may have: §3.2.7.1, appendix D.1
pub record IsWithinDay (hour minute second : ℕ) : Type 0 where
  pub hours : hour ≤ 23
  pub minutes : minute ≤ 59
  pub seconds : second ≤ 60

-- 24:00:00, with no fraction but zero: §3.2.7.1
pub record IsEndOfDay (hour minute second fraction : ℕ) : Type 0 where
  pub hours : hour ≡ 24
  pub minutes : minute ≡ 0
  pub seconds : second ≡ 0
  pub zeros : fraction ≡ 0

-- hh ':' mm ':' ss ('.' s+)?: §3.2.7.1
pub record IsTimePortion (text : List ℕ) : Type 0 where
  pub hour : List ℕ
  pub minute : List ℕ
  pub second : List ℕ
  pub digits : List ℕ
  pub fraction : List ℕ
  pub text_is : text ≡ hour ++ (58 ∷ (minute ++ (58 ∷ (second ++ fraction))))
  pub is_hour : IsTwoDigits hour
  pub is_minute : IsTwoDigits minute
  pub is_second : IsTwoDigits second
  pub is_fraction : IsSecondFraction digits fraction
  pub in_day : IsWithinDay (digits_value 10 hour) (digits_value 10 minute) (digits_value 10 second)
      ⊎ IsEndOfDay (digits_value 10 hour) (digits_value 10 minute) (digits_value 10 second) (digits_value 10 digits)

-- ('+' | '-') hh ':' mm, at most 14:00: §3.2.7.3
pub record IsZoneOffset (text : List ℕ) : Type 0 where
  pub sign : ℕ
  pub hour : List ℕ
  pub minute : List ℕ
  pub text_is : text ≡ sign ∷ (hour ++ (58 ∷ minute))
  pub is_sign : (sign ≡ 43) ⊎ (sign ≡ 45)
  pub is_hour : IsTwoDigits hour
  pub is_minute : IsTwoDigits minute
  pub most : ((digits_value 10 hour ≤ 13) × (digits_value 10 minute ≤ 59)) ⊎ ((digits_value 10 hour ≡ 14) × (digits_value 10 minute ≡ 0))

-- zzzzzz?, where `Z` is one too: §3.2.7.3
abbrev pub IsTimezone : List ℕ → Type 0
IsTimezone text = (text ≡ []) ⊎ (text ≡ 90 ∷ []) ⊎ IsZoneOffset text

-- date, 'T', time: §3.2.7.1
pub record IsDateTimePortion (text : List ℕ) : Type 0 where
  pub date : List ℕ
  pub time : List ℕ
  pub text_is : text ≡ date ++ (84 ∷ time)
  pub is_date : IsDatePortion date
  pub is_time : IsTimePortion time

-- '-'? yyyy: §3.2.11.1
pub record IsYearPortion (text : List ℕ) : Type 0 where
  pub minus : List ℕ
  pub year : List ℕ
  pub text_is : text ≡ minus ++ year
  pub is_minus : IsMinus minus
  pub is_year : IsYearNumeral year

-- '-'? yyyy '-' mm: §3.2.10.1
pub record IsYearMonthPortion (text : List ℕ) : Type 0 where
  pub minus : List ℕ
  pub year : List ℕ
  pub month : List ℕ
  pub text_is : text ≡ minus ++ (year ++ (45 ∷ month))
  pub is_minus : IsMinus minus
  pub is_year : IsYearNumeral year
  pub is_month : IsMonthNumeral month

-- '--' mm '-' dd, a day that a leap year has: §3.2.12.1
pub record IsMonthDayPortion (text : List ℕ) : Type 0 where
  pub month : List ℕ
  pub day : List ℕ
  pub text_is : text ≡ 45 ∷ (45 ∷ (month ++ (45 ∷ day)))
  pub is_month : IsMonthNumeral month
  pub is_day : IsDayNumeral 2000 (digits_value 10 month) day

-- '--' mm: §3.2.14.1
pub record IsMonthPortion (text : List ℕ) : Type 0 where
  pub month : List ℕ
  pub text_is : text ≡ 45 ∷ (45 ∷ month)
  pub is_month : IsMonthNumeral month

-- '---' dd, a day that January has: §3.2.13.1
pub record IsDayPortion (text : List ℕ) : Type 0 where
  pub day : List ℕ
  pub text_is : text ≡ 45 ∷ (45 ∷ (45 ∷ day))
  pub is_day : IsDayNumeral 2000 1 day

-- what stands before the zone
abbrev pub IsPortion : Kind → List ℕ → Type 0
IsPortion kind.Date text = IsDatePortion text
IsPortion kind.DateTime text = IsDateTimePortion text
IsPortion kind.Time text = IsTimePortion text
IsPortion kind.Year text = IsYearPortion text
IsPortion kind.YearMonth text = IsYearMonthPortion text
IsPortion kind.MonthDay text = IsMonthDayPortion text
IsPortion kind.Month text = IsMonthPortion text
IsPortion kind.Day text = IsDayPortion text
IsPortion k text = ⊥

-- the text is in the lexical space of the kind: a zone may stand behind each
pub record IsDateSpace (k : Kind) (text : List ℕ) : Type 0 where
  pub portion : List ℕ
  pub zone : List ℕ
  pub text_is : text ≡ portion ++ zone
  pub is_portion : IsPortion k portion
  pub is_zone : IsTimezone zone
