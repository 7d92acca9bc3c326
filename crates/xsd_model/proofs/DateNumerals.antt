-- The numerals of a date and of a time, and the numbers at their places.
use Rattle.std.proofs.Common.{◌≡◌, ℕ, pos, ◌≤ℤ◌, ◌+◌, ◌-◌, ◌*◌, ◌<◌, ◌≤◌, List, [], ◌∷◌, ◌++◌, length, refl, sym, ap, ap₂, subst, ◌∙◌, arith, append_assoc}
use Rattle.std.proofs.Math.Dec.{leb→le, le→leb}
use Rattle.std.specs.Char.{digit_value}
use Rattle.std.specs.Str.Parse.{AllDigits, digits_value}
use Rattle.lexical_core.proofs.Numerals.{digit_value_is}
use Rattle.data_types.specs.Dates.{IsDay, two_at, four_at}
use Rattle.xsd_model.specs.DateSpaces.{IsTwoDigits}

pub of_signed : (m n : ℕ) → pos m ≤ℤ pos n → m ≤ n
of_signed m n h = leb→le m n h.le

pub to_signed : (m n : ℕ) → m ≤ n → pos m ≤ℤ pos n
to_signed m n h = record { le = le→leb m n h }

-- ---- by digits

-- what holds of any two digits holds of a numeral of two
pub by_two : (P : List ℕ → Type 0) → ((a b : ℕ) → digit_value a < 10 → digit_value b < 10 → P (a ∷ b ∷ [])) → (text : List ℕ) → IsTwoDigits text → P text
by_two P k [] is = absurd (let e = is.two in omega (arith, e))
by_two P k (a ∷ []) is = absurd (let e = is.two in omega (arith, e))
by_two P k (a ∷ b ∷ []) is = k a b is.digits.0 is.digits.1.0
by_two P k (a ∷ b ∷ c ∷ text) is = absurd (let e = is.two in omega (arith, e))

pub by_four : (P : List ℕ → Type 0) → ((a b c d : ℕ) → digit_value a < 10 → digit_value b < 10 → digit_value c < 10 → digit_value d < 10 → P (a ∷ b ∷ c ∷ d ∷ []))
    → (text : List ℕ) → AllDigits 10 text → length text ≡ 4 → P text
by_four P k [] all e = absurd (omega (arith, e))
by_four P k (a ∷ []) all e = absurd (omega (arith, e))
by_four P k (a ∷ b ∷ []) all e = absurd (omega (arith, e))
by_four P k (a ∷ b ∷ c ∷ []) all e = absurd (omega (arith, e))
by_four P k (a ∷ b ∷ c ∷ d ∷ []) all e = k a b c d all.0 all.1.0 all.1.1.0 all.1.1.1.0
by_four P k (a ∷ b ∷ c ∷ d ∷ x ∷ text) all e = absurd (omega (arith, e))

two_number : (p q : ℕ) → p * 10 + q ≡ (0 * 10 + p) * 10 + q
two_number p q = omega arith

four_number : (p q r s : ℕ) → (p * 10 + q) * 100 + (r * 10 + s) ≡ (((0 * 10 + p) * 10 + q) * 10 + r) * 10 + s
four_number p q r s = omega arith

-- the number of two digits
pub two_is : (a b : ℕ) → digit_value a < 10 → digit_value b < 10 → (a - 48) * 10 + (b - 48) ≡ digits_value 10 (a ∷ b ∷ [])
two_is a b is_a is_b =
    ap₂ (λ p q. p * 10 + q) (sym (digit_value_is a is_a)) (sym (digit_value_is b is_b)) ∙ two_number (digit_value a) (digit_value b)

four_is : (a b c d : ℕ) → digit_value a < 10 → digit_value b < 10 → digit_value c < 10 → digit_value d < 10
    → ((a - 48) * 10 + (b - 48)) * 100 + ((c - 48) * 10 + (d - 48)) ≡ digits_value 10 (a ∷ b ∷ c ∷ d ∷ [])
four_is a b c d is_a is_b is_c is_d =
    ap₂ (λ p q. p * 100 + q)
    (ap₂ (λ p q. p * 10 + q) (sym (digit_value_is a is_a)) (sym (digit_value_is b is_b)))
    (ap₂ (λ p q. p * 10 + q) (sym (digit_value_is c is_c)) (sym (digit_value_is d is_d)))
    ∙ four_number (digit_value a) (digit_value b) (digit_value c) (digit_value d)

four_least : (p q r s : ℕ) → p < 10 → q < 10 → r < 10 → s < 10 → (((0 * 10 + p) * 10 + q) * 10 + r) * 10 + s ≤ 9999
four_least p q r s a b c d = omega (arith, a, b, c, d)

pub four_below : (text : List ℕ) → AllDigits 10 text → length text ≡ 4 → digits_value 10 text ≤ 9999
four_below text all len =
    by_four (λ t. digits_value 10 t ≤ 9999) (λ a b c d p q r s. four_least (digit_value a) (digit_value b) (digit_value c) (digit_value d) p q r s) text all len

pub same_day : (y z m n d e : ℕ) → y ≡ z → m ≡ n → d ≡ e → IsDay y m d → IsDay z n e
same_day y z m n d e is_y is_m is_d h = subst (λ x. IsDay x n e) is_y (subst (λ x. IsDay y x e) is_m (subst (λ x. IsDay y m x) is_d h))

-- ---- by places

-- the numbers of a day before more
pub record DayNumbers (year month day tail : List ℕ) : Type 0 where
  pub year_at : four_at (year ++ (45 ∷ (month ++ (45 ∷ (day ++ tail))))) 0 ≡ digits_value 10 year
  pub month_at : two_at (year ++ (45 ∷ (month ++ (45 ∷ (day ++ tail))))) 5 ≡ digits_value 10 month
  pub day_at : two_at (year ++ (45 ∷ (month ++ (45 ∷ (day ++ tail))))) 8 ≡ digits_value 10 day

pub day_numbers : (year month day tail : List ℕ) → AllDigits 10 year → length year ≡ 4 → IsTwoDigits month → IsTwoDigits day → DayNumbers year month day tail
day_numbers year month day tail all len is_month is_day =
    by_four (λ y. DayNumbers y month day tail) (λ a b c d p q r s.
    by_two (λ m. DayNumbers (a ∷ b ∷ c ∷ d ∷ []) m day tail) (λ e f t u.
    by_two (λ n. DayNumbers (a ∷ b ∷ c ∷ d ∷ []) (e ∷ f ∷ []) n tail) (λ g h v w.
    record { year_at = four_is a b c d p q r s; month_at = two_is e f t u; day_at = two_is g h v w }) day is_day) month is_month) year all len

-- what stands behind the day
pub day_tail : (year month day x : List ℕ) → (year ++ (45 ∷ (month ++ (45 ∷ day)))) ++ x ≡ year ++ (45 ∷ (month ++ (45 ∷ (day ++ x))))
day_tail year month day x =
    append_assoc year (45 ∷ (month ++ (45 ∷ day))) x ∙ ap (λ t. year ++ (45 ∷ t)) (append_assoc month (45 ∷ day) x)

-- a date and its `T` have eleven characters
pub day_length : (year month day : List ℕ) → AllDigits 10 year → length year ≡ 4 → IsTwoDigits month → IsTwoDigits day → length ((year ++ (45 ∷ (month ++ (45 ∷ day)))) ++ (84 ∷ [])) ≡ 11
day_length year month day all len is_month is_day =
    by_four (λ y. length ((y ++ (45 ∷ (month ++ (45 ∷ day)))) ++ (84 ∷ [])) ≡ 11) (λ a b c d p q r s.
    by_two (λ m. length ((a ∷ b ∷ c ∷ d ∷ 45 ∷ (m ++ (45 ∷ day))) ++ (84 ∷ [])) ≡ 11) (λ e f t u.
    by_two (λ n. length ((a ∷ b ∷ c ∷ d ∷ 45 ∷ e ∷ f ∷ 45 ∷ n) ++ (84 ∷ [])) ≡ 11) (λ g h v w. refl) day is_day) month is_month) year all len

-- the time of a date with its fraction, or without
pub date_time_text : (date clock fraction zone : List ℕ) → (date ++ (84 ∷ clock)) ++ (fraction ++ zone) ≡ (date ++ (84 ∷ (clock ++ fraction))) ++ zone
date_time_text date clock fraction zone =
    append_assoc date (84 ∷ clock) (fraction ++ zone)
    ∙ (ap (λ t. date ++ (84 ∷ t)) (sym (append_assoc clock fraction zone)) ∙ sym (append_assoc date (84 ∷ (clock ++ fraction)) zone))

-- the numbers of a time before more
pub record ClockNumbers (hour minute second tail : List ℕ) : Type 0 where
  pub hour_at : two_at (hour ++ (58 ∷ (minute ++ (58 ∷ (second ++ tail))))) 0 ≡ digits_value 10 hour
  pub minute_at : two_at (hour ++ (58 ∷ (minute ++ (58 ∷ (second ++ tail))))) 3 ≡ digits_value 10 minute
  pub second_at : two_at (hour ++ (58 ∷ (minute ++ (58 ∷ (second ++ tail))))) 6 ≡ digits_value 10 second

pub clock_numbers : (hour minute second tail : List ℕ) → IsTwoDigits hour → IsTwoDigits minute → IsTwoDigits second → ClockNumbers hour minute second tail
clock_numbers hour minute second tail is_hour is_minute is_second =
    by_two (λ h. ClockNumbers h minute second tail) (λ a b p q.
    by_two (λ m. ClockNumbers (a ∷ b ∷ []) m second tail) (λ c d r s.
    by_two (λ z. ClockNumbers (a ∷ b ∷ []) (c ∷ d ∷ []) z tail) (λ e f t u.
    record { hour_at = two_is a b p q; minute_at = two_is c d r s; second_at = two_is e f t u }) second is_second) minute is_minute) hour is_hour

-- what stands behind the seconds
pub clock_tail : (hour minute second x : List ℕ) → (hour ++ (58 ∷ (minute ++ (58 ∷ second)))) ++ x ≡ hour ++ (58 ∷ (minute ++ (58 ∷ (second ++ x))))
clock_tail hour minute second x =
    append_assoc hour (58 ∷ (minute ++ (58 ∷ second))) x ∙ ap (λ t. hour ++ (58 ∷ t)) (append_assoc minute (58 ∷ second) x)

-- the numbers of a zone
pub offset_hour : (sign : ℕ) (hour tail : List ℕ) → IsTwoDigits hour → two_at (sign ∷ (hour ++ tail)) 1 ≡ digits_value 10 hour
offset_hour sign hour tail is = by_two (λ h. two_at (sign ∷ (h ++ tail)) 1 ≡ digits_value 10 h) (λ a b p q. two_is a b p q) hour is

pub offset_minute : (sign : ℕ) (hour minute tail : List ℕ) → IsTwoDigits hour → IsTwoDigits minute → two_at (sign ∷ (hour ++ (58 ∷ (minute ++ tail)))) 4 ≡ digits_value 10 minute
offset_minute sign hour minute tail is_hour is_minute =
    by_two (λ h. two_at (sign ∷ (h ++ (58 ∷ (minute ++ tail)))) 4 ≡ digits_value 10 minute) (λ a b p q.
    by_two (λ m. two_at (sign ∷ a ∷ b ∷ 58 ∷ (m ++ tail)) 4 ≡ digits_value 10 m) (λ c d r s. two_is c d r s) minute is_minute) hour is_hour

-- the numbers of a month and of a day behind hyphens
pub month_number : (month tail : List ℕ) → IsTwoDigits month → two_at (45 ∷ (45 ∷ (month ++ tail))) 2 ≡ digits_value 10 month
month_number month tail is = by_two (λ m. two_at (45 ∷ (45 ∷ (m ++ tail))) 2 ≡ digits_value 10 m) (λ a b p q. two_is a b p q) month is

pub day_behind_month : (month day tail : List ℕ) → IsTwoDigits month → IsTwoDigits day → two_at (45 ∷ (45 ∷ (month ++ (45 ∷ (day ++ tail))))) 5 ≡ digits_value 10 day
day_behind_month month day tail is_month is_day =
    by_two (λ m. two_at (45 ∷ (45 ∷ (m ++ (45 ∷ (day ++ tail))))) 5 ≡ digits_value 10 day) (λ a b p q.
    by_two (λ n. two_at (45 ∷ (45 ∷ (a ∷ b ∷ 45 ∷ (n ++ tail)))) 5 ≡ digits_value 10 n) (λ c d r s. two_is c d r s) day is_day) month is_month

pub day_number : (day tail : List ℕ) → IsTwoDigits day → two_at (45 ∷ (45 ∷ (45 ∷ (day ++ tail)))) 3 ≡ digits_value 10 day
day_number day tail is = by_two (λ m. two_at (45 ∷ (45 ∷ (45 ∷ (m ++ tail)))) 3 ≡ digits_value 10 m) (λ a b p q. two_is a b p q) day is

-- the numbers of a year and its month
pub record MonthNumbers (year month tail : List ℕ) : Type 0 where
  pub year_at : four_at (year ++ (45 ∷ (month ++ tail))) 0 ≡ digits_value 10 year
  pub month_at : two_at (year ++ (45 ∷ (month ++ tail))) 5 ≡ digits_value 10 month

pub month_numbers : (year month tail : List ℕ) → AllDigits 10 year → length year ≡ 4 → IsTwoDigits month → MonthNumbers year month tail
month_numbers year month tail all len is_month =
    by_four (λ y. MonthNumbers y month tail) (λ a b c d p q r s.
    by_two (λ m. MonthNumbers (a ∷ b ∷ c ∷ d ∷ []) m tail) (λ e f t u. record { year_at = four_is a b c d p q r s; month_at = two_is e f t u }) month is_month) year all len

pub year_number : (year tail : List ℕ) → AllDigits 10 year → length year ≡ 4 → four_at (year ++ tail) 0 ≡ digits_value 10 year
year_number year tail all len = by_four (λ y. four_at (y ++ tail) 0 ≡ digits_value 10 y) (λ a b c d p q r s. four_is a b c d p q r s) year all len
