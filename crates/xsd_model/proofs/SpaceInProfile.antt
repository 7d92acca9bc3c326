-- What is in the lexical space of a date or a time, and a word of the profile's pattern, is of our profile.
use Rattle.std.proofs.Common.{◌≡◌, ◌≢◌, ◌⊎◌, ℕ, zero, suc, ◌+◌, ◌-◌, ◌*◌, ◌<◌, ◌≤◌, inl, inr, true, List, [], ◌∷◌, ◌++◌, length, slice_index, refl, sym, ap, ap₂, subst, ◌∙◌, arith, append-nil, append_assoc, lit≤}
use Rattle.std.specs.Prelude.{codes}
use Rattle.std.specs.Char.{digit_value}
use Rattle.std.specs.Str.{chars}
use Rattle.std.specs.Str.Parse.{AllDigits, digits_value}
use Rattle.lexical_core.specs.Exponents.{NoDigit}
use Rattle.lexical_core.proofs.DecimalTexts.{digits_split}
use Rattle.lexical_core.proofs.Lists.{same_first, same_rest}
use Rattle.pattern_match.specs.Expression.{Character, Once, Optional, Expression, Piece, Group}
use Rattle.pattern_match.specs.Language.{Lang}
use Rattle.pattern_match.specs.Reading.{Matches}
use Rattle.data_types.specs.Dates.{IsDateText, HasForm, FitsPlace, IsClock, IsDay, IsFraction, IsZone, IsOffset, two_at, four_at}
use Rattle.data_types.specs.declared.kind.Kind.{Kind}
use Rattle.data_types.specs.declared.kind.Kind.TheVariants as kind
use Rattle.xsd_model.specs.StepsOf.{profile_pattern}
use Rattle.xsd_model.specs.DateSpaces.{maximum_day, IsMinus, IsTwoDigits, IsYearNumeral, IsMonthNumeral, IsDayNumeral, IsDatePortion, IsSecondFraction, IsWithinDay, IsEndOfDay, IsTimePortion, IsZoneOffset, IsTimezone, IsDateTimePortion, IsYearPortion, IsYearMonthPortion, IsMonthDayPortion, IsMonthPortion, IsDayPortion, IsDateSpace}
use Rattle.xsd_model.proofs.ProfileTrees.{digits, fraction_tree, time_tree, zone_tree, month_tree, day_tree, word_of_tree}
use Rattle.xsd_model.proofs.DateProfiles.{Forms, behind_clock}
use Rattle.xsd_model.proofs.DateNumerals.{by_two, by_four, four_below, to_signed, same_day, day_numbers, month_numbers, year_number, clock_numbers, day_tail, day_length, date_time_text, clock_tail, offset_hour, offset_minute, month_number, day_behind_month, day_number, two_is}
use Rattle.xsd_model.proofs.ProfileWords.{character_first, digits_first, StartsZone, zone_starts, starts_no_digit, TimeWord, time_word, fraction_first}

-- ---- texts of forms

has_form : (form text : List ℕ) → Forms form text → HasForm form text
has_form [] [] f = record { same_length = refl; each = λ k lt. absurd (omega (arith, lt)) }
has_form [] (c ∷ text) f = absurd f
has_form (p ∷ form) [] f = absurd f
has_form (p ∷ form) (c ∷ text) f = record { same_length = ap suc (has_form form text f.1).same_length; each = each (has_form form text f.1) }
  where
    each : HasForm form text → (k : ℕ) → k < length (p ∷ form) → FitsPlace (slice_index (p ∷ form) k) (slice_index (c ∷ text) k)
    each h zero lt = f.0
    each h (suc k) lt = h.each k (omega (arith, lt))

char_forms : (p : ℕ) (form text : List ℕ) → p ≢ 100 → Forms form text → Forms (p ∷ form) (p ∷ text)
char_forms p form text other f = (inr (other, refl), f)

two_forms : (u form text : List ℕ) → IsTwoDigits u → Forms form text → Forms (100 ∷ 100 ∷ form) (u ++ text)
two_forms u form text is f = by_two (λ x. Forms (100 ∷ 100 ∷ form) (x ++ text)) (λ a b p q. (inl (refl, p), (inl (refl, q), f))) u is

four_forms : (u form text : List ℕ) → AllDigits 10 u → length u ≡ 4 → Forms form text → Forms (100 ∷ 100 ∷ 100 ∷ 100 ∷ form) (u ++ text)
four_forms u form text all len f =
    by_four (λ x. Forms (100 ∷ 100 ∷ 100 ∷ 100 ∷ form) (x ++ text)) (λ a b c d p q r s. (inl (refl, p), (inl (refl, q), (inl (refl, r), (inl (refl, s), f))))) u all len

hyphen_forms : (form text : List ℕ) → Forms form text → Forms (45 ∷ form) (45 ∷ text)
hyphen_forms form text f = char_forms 45 form text (λ x. absurd (omega (arith, x))) f

colon_forms : (form text : List ℕ) → Forms form text → Forms (58 ∷ form) (58 ∷ text)
colon_forms form text f = char_forms 58 form text (λ x. absurd (omega (arith, x))) f

-- ---- zones

timezone_starts : (zone : List ℕ) → IsTimezone zone → StartsZone zone
timezone_starts zone (inl none) = subst StartsZone (sym none) tt
timezone_starts zone (inr (inl z)) = subst StartsZone (sym z) (inl refl)
timezone_starts zone (inr (inr o)) = subst StartsZone (sym o.text_is) (inr o.is_sign)

no_digit : (zone : List ℕ) → IsTimezone zone → NoDigit zone
no_digit zone z = starts_no_digit zone (timezone_starts zone z)

few_minutes : (h m : ℕ) → ((h ≤ 13) × (m ≤ 59)) ⊎ ((h ≡ 14) × (m ≡ 0)) → (m ≤ 59) × (h * 60 + m ≤ 14 * 60)
few_minutes h m (inl few) = (let a = few.0 in let b = few.1 in (b, omega (arith, a, b)))
few_minutes h m (inr top) = (let a = top.0 in let b = top.1 in (omega (arith, b), omega (arith, a, b)))

offset_back : (text : List ℕ) → IsZoneOffset text → IsOffset text
offset_back text o =
    let whole : text ≡ o.sign ∷ (o.hour ++ (58 ∷ (o.minute ++ []))) = o.text_is ∙ ap (λ t. o.sign ∷ (o.hour ++ (58 ∷ t))) (sym (append-nil o.minute)) in
    let few = few_minutes (digits_value 10 o.hour) (digits_value 10 o.minute) o.most in
    let hour_is = offset_hour o.sign o.hour (58 ∷ (o.minute ++ [])) o.is_hour in
    let minute_is = offset_minute o.sign o.hour o.minute [] o.is_hour o.is_minute in
    let at = λ (i : ℕ). two_at (o.sign ∷ (o.hour ++ (58 ∷ (o.minute ++ [])))) i in
    subst IsOffset (sym whole) (record {
      sign = o.is_sign;
      form = has_form (codes "dd:dd") (o.hour ++ (58 ∷ (o.minute ++ [])))
          (two_forms o.hour (codes ":dd") (58 ∷ (o.minute ++ [])) o.is_hour (colon_forms (codes "dd") (o.minute ++ []) (two_forms o.minute [] [] o.is_minute tt)));
      minutes = subst (λ x. x ≤ 59) (sym minute_is) few.0;
      most = subst (λ x. x * 60 + at 4 ≤ 14 * 60) (sym hour_is) (subst (λ x. digits_value 10 o.hour * 60 + x ≤ 14 * 60) (sym minute_is) few.1);
    })

zone_back : (zone : List ℕ) → IsTimezone zone → IsZone zone
zone_back zone (inl none) = inl none
zone_back zone (inr (inl z)) = inr (inl z)
zone_back zone (inr (inr o)) = inr (inr (offset_back zone o))

-- ---- years

no_minus : (u v more : List ℕ) → AllDigits 10 u → length u ≡ 4 → 45 ∷ more ≡ u ++ v → ⊥
no_minus u v more all len =
    by_four (λ x. 45 ∷ more ≡ x ++ v → ⊥) (λ a b c d p q r s e. (let low : digit_value 45 < 10 = subst (λ x. digit_value x < 10) (sym (same_first 45 a more (b ∷ c ∷ d ∷ v) e)) p in omega (arith, low))) u all len

-- a year whose text begins with four digits and no more is that of these
record FourDigits (minus year more v : List ℕ) : Type 0 where
  no_sign : minus ≡ []
  four : length year ≡ 4
  behind : more ≡ v

four_digits : (minus year more u v : List ℕ) → IsMinus minus → AllDigits 10 year → NoDigit more → AllDigits 10 u → length u ≡ 4 → NoDigit v → minus ++ (year ++ more) ≡ u ++ v → FourDigits minus year more v
four_digits minus year more u v (inl none) all other all_u len no_v e =
    let r = digits_split year u more v all all_u (sym (ap (λ t. t ++ (year ++ more)) none) ∙ e) other no_v in
    record { no_sign = none; four = ap length r.0 ∙ len; behind = r.1 }
four_digits minus year more u v (inr sign) all other all_u len no_v e = absurd (no_minus u v (year ++ more) all_u len (sym (ap (λ t. t ++ (year ++ more)) sign) ∙ e))

no_hyphen : (text rest : List ℕ) → text ≡ 45 ∷ rest → NoDigit text
no_hyphen text rest e = subst NoDigit (sym e) (lit≤ tt)

two_rest : (x y s t : List ℕ) → IsTwoDigits x → IsTwoDigits y → x ++ s ≡ y ++ t → s ≡ t
two_rest x y s t is_x is_y =
    by_two (λ w. w ++ s ≡ y ++ t → s ≡ t) (λ a b p q.
    by_two (λ w. a ∷ b ∷ s ≡ w ++ t → s ≡ t) (λ c d f g e. same_rest b d s t (same_rest a c (b ∷ s) (d ∷ t) e)) y is_y) x is_x

-- ---- dates

is_day : (year month day : List ℕ) → IsYearNumeral year → length year ≡ 4 → IsMonthNumeral month → IsDayNumeral (digits_value 10 year) (digits_value 10 month) day
    → IsDay (digits_value 10 year) (digits_value 10 month) (digits_value 10 day)
is_day year month day y len m d =
    let yv = digits_value 10 year in
    let mv = digits_value 10 month in
    let dv = digits_value 10 day in (
      y.some,
      ((record { le = tt }, to_signed yv 9999 (four_below year y.digits len)), (to_signed 1 mv m.least, to_signed mv 12 m.most), (to_signed 1 dv d.least, to_signed dv (maximum_day yv mv) d.most)),
    )

-- the fixed part of a date, and what stands behind it
record FixedDay (form text : List ℕ) : Type 0 where
  forms : Forms (codes "dddd-dd-dd" ++ form) text
  day : IsDay (four_at text 0) (two_at text 5) (two_at text 8)

fixed_day : (year month day form more : List ℕ) → IsYearNumeral year → length year ≡ 4 → IsMonthNumeral month → IsDayNumeral (digits_value 10 year) (digits_value 10 month) day → Forms form more
    → FixedDay form (year ++ (45 ∷ (month ++ (45 ∷ (day ++ more)))))
fixed_day year month day form more y len m d f =
    let T = year ++ (45 ∷ (month ++ (45 ∷ (day ++ more)))) in
    let n = day_numbers year month day more y.digits len m.two d.two in
    record {
      forms = four_forms year (codes "-dd-dd" ++ form) (45 ∷ (month ++ (45 ∷ (day ++ more)))) y.digits len
          (hyphen_forms (codes "dd-dd" ++ form) (month ++ (45 ∷ (day ++ more)))
          (two_forms month (codes "-dd" ++ form) (45 ∷ (day ++ more)) m.two (hyphen_forms (codes "dd" ++ form) (day ++ more) (two_forms day form more d.two f))));
      day = same_day (digits_value 10 year) (four_at T 0) (digits_value 10 month) (two_at T 5) (digits_value 10 day) (two_at T 8) (sym n.year_at) (sym n.month_at) (sym n.day_at)
          (is_day year month day y len m d);
    }

-- what the pattern says of a date before more
record KnownDate (rest : Expression) (date tail : List ℕ) (p : IsDatePortion date) : Type 0 where
  no_sign : p.minus ≡ []
  four : length p.year ≡ 4
  behind : Lang rest tail

known_date : (rest : Expression) (text date tail : List ℕ) (p : IsDatePortion date) → text ≡ date ++ tail → Lang (day_tree rest) text → KnownDate rest date tail p
known_date rest text date tail p e l =
    let y = digits_first (codes "4") (Piece (Character 45) Once (digits (codes "2") (Piece (Character 45) Once (digits (codes "2") rest)))) text l in
    let h = character_first 45 (digits (codes "2") (Piece (Character 45) Once (digits (codes "2") rest))) y.1 y.5 in
    let m = digits_first (codes "2") (Piece (Character 45) Once (digits (codes "2") rest)) h.0 h.2 in
    let g = character_first 45 (digits (codes "2") rest) m.1 m.5 in
    let d = digits_first (codes "2") rest g.0 g.2 in
    let more = 45 ∷ (p.month ++ (45 ∷ (p.day ++ tail))) in
    let whole : text ≡ p.minus ++ (p.year ++ more) =
    e ∙ (ap (λ t. t ++ tail) p.text_is ∙ (append_assoc p.minus (p.year ++ (45 ∷ (p.month ++ (45 ∷ p.day)))) tail ∙ ap (λ t. p.minus ++ t) (day_tail p.year p.month p.day tail))) in
    let r = four_digits p.minus p.year more y.0 y.1 p.is_minus p.is_year.digits (no_hyphen more (p.month ++ (45 ∷ (p.day ++ tail))) refl) y.3 y.4 (no_hyphen y.1 h.0 h.1) (sym whole ∙ y.2) in
    let months : p.month ++ (45 ∷ (p.day ++ tail)) ≡ m.0 ++ m.1 = same_rest 45 45 (p.month ++ (45 ∷ (p.day ++ tail))) h.0 (r.behind ∙ h.1) ∙ m.2 in
    let hyphens : 45 ∷ (p.day ++ tail) ≡ m.1 = two_rest p.month m.0 (45 ∷ (p.day ++ tail)) m.1 p.is_month.two (record { digits = m.3; two = m.4 }) months in
    let days : p.day ++ tail ≡ d.0 ++ d.1 = same_rest 45 45 (p.day ++ tail) g.0 (hyphens ∙ g.1) ∙ d.2 in
    let end : tail ≡ d.1 = two_rest p.day d.0 tail d.1 p.is_day.two (record { digits = d.3; two = d.4 }) days in
    record { no_sign = r.no_sign; four = r.four; behind = subst (Lang rest) (sym end) d.5 }

space_date : (text date zone : List ℕ) (p : IsDatePortion date) → text ≡ date ++ zone → IsTimezone zone → Lang (day_tree zone_tree) text → IsDateText kind.Date text
space_date text date zone p e z l =
    let k = known_date zone_tree text date zone p e l in
    let f = fixed_day p.year p.month p.day [] [] p.is_year k.four p.is_month p.is_day tt in
    let same : date ≡ p.year ++ (45 ∷ (p.month ++ (45 ∷ (p.day ++ [])))) =
    p.text_is ∙ (ap (λ t. t ++ (p.year ++ (45 ∷ (p.month ++ (45 ∷ p.day))))) k.no_sign ∙ ap (λ t. p.year ++ (45 ∷ (p.month ++ (45 ∷ t)))) (sym (append-nil p.day))) in
    let now = subst (FixedDay []) (sym same) f in
    (date, [], zone, e, has_form (codes "dddd-dd-dd") date now.forms, now.day, refl, zone_back zone z)

-- ---- times

-- the digits behind a point are those of the pattern
point_few : (digits zone w : List ℕ) → AllDigits 10 digits → 1 ≤ length digits → IsTimezone zone → w ≡ 46 ∷ (digits ++ zone)
    → StartsZone w ⊎ ((ds : List ℕ) × (v : List ℕ) × (w ≡ 46 ∷ (ds ++ v)) × AllDigits 10 ds × (length ds ≤ 9) × StartsZone v) → IsFraction true (46 ∷ digits)
point_few digits zone w all least z e (inl starts) = absurd (none (subst StartsZone e starts))
  where
    none : StartsZone (46 ∷ (digits ++ zone)) → ⊥
    none (inl f) = omega (arith, f)
    none (inr (inl f)) = omega (arith, f)
    none (inr (inr f)) = omega (arith, f)
point_few digits zone w all least z e (inr (ds, v, f, all_ds, few, starts)) =
    let r = digits_split digits ds zone v all all_ds (same_rest 46 46 (digits ++ zone) (ds ++ v) (sym e ∙ f)) (no_digit zone z) (starts_no_digit v starts) in
    inr (digits, all, least, subst (λ n. n ≤ 9) (sym (ap length r.0)) few, refl)

fraction_few : (digits fraction zone : List ℕ) → IsSecondFraction digits fraction → IsTimezone zone → Lang (Group fraction_tree Optional zone_tree) (fraction ++ zone) → IsFraction true fraction
fraction_few digits fraction zone (all, inl none) z l = inl none.1
fraction_few digits fraction zone (all, inr (least, e)) z l =
    subst (IsFraction true) (sym e) (point_few digits zone (fraction ++ zone) all least z (ap (λ t. t ++ zone) e) (fraction_first (fraction ++ zone) l))

-- what the pattern says of the hours, the seconds and what stands behind
record ClockWord (hour second : ℕ) (behind : List ℕ) : Type 0 where
  hours : hour < 24
  seconds : second < 60
  word : Lang (Group fraction_tree Optional zone_tree) behind

clock_word : (hour minute second behind w : List ℕ) → IsTwoDigits hour → IsTwoDigits minute → IsTwoDigits second → w ≡ hour ++ (58 ∷ (minute ++ (58 ∷ (second ++ behind)))) → TimeWord w
    → ClockWord (digits_value 10 hour) (digits_value 10 second) behind
clock_word hour minute second behind w is_hour is_minute is_second e t =
    by_two (λ x. x ++ (58 ∷ (minute ++ (58 ∷ (second ++ behind)))) ≡ w → ClockWord (digits_value 10 x) (digits_value 10 second) behind) (λ a b p q.
    by_two (λ x. a ∷ b ∷ 58 ∷ (x ++ (58 ∷ (second ++ behind))) ≡ w → ClockWord (digits_value 10 (a ∷ b ∷ [])) (digits_value 10 second) behind) (λ c d r s.
    by_two (λ x. a ∷ b ∷ 58 ∷ c ∷ d ∷ 58 ∷ (x ++ behind) ≡ w → ClockWord (digits_value 10 (a ∷ b ∷ [])) (digits_value 10 x) behind) (λ f g u v same.
    told a b c d f g p q u v (same ∙ t.word_is)) second is_second) minute is_minute) hour is_hour (sym e)
  where
    told : (a b c d f g : ℕ) → digit_value a < 10 → digit_value b < 10 → digit_value f < 10 → digit_value g < 10
        → a ∷ b ∷ 58 ∷ c ∷ d ∷ 58 ∷ f ∷ g ∷ behind ≡ t.a ∷ t.b ∷ 58 ∷ t.c ∷ t.d ∷ 58 ∷ t.e ∷ t.f ∷ t.rest → ClockWord (digits_value 10 (a ∷ b ∷ [])) (digits_value 10 (f ∷ g ∷ [])) behind
    told a b c d f g p q u v same =
        let is_a : t.a ≡ a = cc in
        let is_b : t.b ≡ b = cc in
        let is_f : t.e ≡ f = cc in
        let is_g : t.f ≡ g = cc in
        let end : t.rest ≡ behind = cc in
        record {
          hours = subst (λ n. n < 24) (ap₂ (λ x y. (x - 48) * 10 + (y - 48)) is_a is_b ∙ two_is a b p q) t.hours;
          seconds = subst (λ n. n < 60) (ap₂ (λ x y. (x - 48) * 10 + (y - 48)) is_f is_g ∙ two_is f g u v) t.seconds;
          word = subst (Lang (Group fraction_tree Optional zone_tree)) end t.behind;
        }

minutes_below : (hour minute second fraction : ℕ) → hour < 24 → IsWithinDay hour minute second ⊎ IsEndOfDay hour minute second fraction → minute < 60
minutes_below hour minute second fraction lt (inl d) = (let few = d.minutes in omega (arith, few))
minutes_below hour minute second fraction lt (inr d) = (let e = d.hours in absurd (omega (arith, lt, e)))

-- the fixed part of a time
record KnownTime (time zone : List ℕ) : Type 0 where
  clock : List ℕ
  fraction : List ℕ
  text_is : time ≡ clock ++ fraction
  forms : Forms (codes "dd:dd:dd") clock
  is_clock : IsClock clock 0
  is_fraction : IsFraction true fraction

known_time : (time zone : List ℕ) → IsTimePortion time → IsTimezone zone → Lang time_tree (time ++ zone) → KnownTime time zone
known_time time zone p z l =
    let C = p.hour ++ (58 ∷ (p.minute ++ (58 ∷ (p.second ++ [])))) in
    let bare : p.hour ++ (58 ∷ (p.minute ++ (58 ∷ p.second))) ≡ C = ap (λ t. p.hour ++ (58 ∷ (p.minute ++ (58 ∷ t)))) (sym (append-nil p.second)) in
    let e : time ≡ (p.hour ++ (58 ∷ (p.minute ++ (58 ∷ p.second)))) ++ p.fraction = p.text_is ∙ sym (clock_tail p.hour p.minute p.second p.fraction) in
    let whole : time ++ zone ≡ p.hour ++ (58 ∷ (p.minute ++ (58 ∷ (p.second ++ (p.fraction ++ zone))))) =
    ap (λ t. t ++ zone) e ∙ (append_assoc (p.hour ++ (58 ∷ (p.minute ++ (58 ∷ p.second)))) p.fraction zone ∙ clock_tail p.hour p.minute p.second (p.fraction ++ zone)) in
    let w = clock_word p.hour p.minute p.second (p.fraction ++ zone) (time ++ zone) p.is_hour p.is_minute p.is_second whole (time_word (time ++ zone) l) in
    let n = clock_numbers p.hour p.minute p.second [] p.is_hour p.is_minute p.is_second in
    let minutes = minutes_below (digits_value 10 p.hour) (digits_value 10 p.minute) (digits_value 10 p.second) (digits_value 10 p.digits) w.hours p.in_day in
    record {
      clock = C;
      fraction = p.fraction;
      text_is = e ∙ ap (λ t. t ++ p.fraction) bare;
      forms = two_forms p.hour (codes ":dd:dd") (58 ∷ (p.minute ++ (58 ∷ (p.second ++ [])))) p.is_hour
          (colon_forms (codes "dd:dd") (p.minute ++ (58 ∷ (p.second ++ [])))
          (two_forms p.minute (codes ":dd") (58 ∷ (p.second ++ [])) p.is_minute (colon_forms (codes "dd") (p.second ++ []) (two_forms p.second [] [] p.is_second tt))));
      is_clock = (subst (λ x. x < 24) (sym n.hour_at) w.hours, subst (λ x. x < 60) (sym n.minute_at) minutes, subst (λ x. x < 60) (sym n.second_at) w.seconds);
      is_fraction = fraction_few p.digits p.fraction zone p.is_fraction z w.word;
    }

space_time : (text time zone : List ℕ) → IsTimePortion time → text ≡ time ++ zone → IsTimezone zone → Lang time_tree text → IsDateText kind.Time text
space_time text time zone p e z l =
    let k = known_time time zone p z (subst (Lang time_tree) e l) in
    (k.clock, k.fraction, zone, e ∙ (ap (λ t. t ++ zone) k.text_is ∙ append_assoc k.clock k.fraction zone), has_form (codes "dd:dd:dd") k.clock k.forms, k.is_clock, k.is_fraction, zone_back zone z)

space_date_time : (text portion zone : List ℕ) → IsDateTimePortion portion → text ≡ portion ++ zone → IsTimezone zone → Lang (day_tree (Piece (Character 84) Once time_tree)) text
    → IsDateText kind.DateTime text
space_date_time text portion zone q e z l =
    let p = q.is_date in
    let late : text ≡ q.date ++ (84 ∷ (q.time ++ zone)) = e ∙ (ap (λ t. t ++ zone) q.text_is ∙ append_assoc q.date (84 ∷ q.time) zone) in
    let known = known_date (Piece (Character 84) Once time_tree) text q.date (84 ∷ (q.time ++ zone)) p late l in
    let t = character_first 84 time_tree (84 ∷ (q.time ++ zone)) known.behind in
    let k = known_time q.time zone q.is_time z (subst (Lang time_tree) (sym (same_rest 84 84 (q.time ++ zone) t.0 t.1)) t.2) in
    let D = p.year ++ (45 ∷ (p.month ++ (45 ∷ p.day))) in
    let date_is : q.date ≡ D = p.text_is ∙ ap (λ x. x ++ D) known.no_sign in
    let fixed = D ++ (84 ∷ k.clock) in
    let f = fixed_day p.year p.month p.day (codes "Tdd:dd:dd") (84 ∷ k.clock) p.is_year known.four p.is_month p.is_day
    (char_forms 84 (codes "dd:dd:dd") k.clock (λ x. absurd (omega (arith, x))) k.forms) in
    let now = subst (FixedDay (codes "Tdd:dd:dd")) (sym (day_tail p.year p.month p.day (84 ∷ k.clock))) f in
    let clock : IsClock fixed 11 =
    subst (λ x. IsClock x 11) (append_assoc D (84 ∷ []) k.clock) (behind_clock (D ++ (84 ∷ [])) k.clock (day_length p.year p.month p.day p.is_year.digits known.four p.is_month.two p.is_day.two) k.is_clock) in
    let whole : text ≡ fixed ++ (k.fraction ++ zone) =
    e ∙ (ap (λ x. x ++ zone) (q.text_is ∙ (ap (λ x. x ++ (84 ∷ q.time)) date_is ∙ ap (λ x. D ++ (84 ∷ x)) k.text_is)) ∙ sym (date_time_text D k.clock k.fraction zone)) in
    (fixed, k.fraction, zone, whole, has_form (codes "dddd-dd-ddTdd:dd:dd") fixed now.forms, (now.day, clock), k.is_fraction, zone_back zone z)

-- ---- parts of dates

space_year : (text portion zone : List ℕ) → IsYearPortion portion → text ≡ portion ++ zone → IsTimezone zone → Lang (digits (codes "4") zone_tree) text → IsDateText kind.Year text
space_year text portion zone p e z l =
    let y = digits_first (codes "4") zone_tree text l in
    let whole : text ≡ p.minus ++ (p.year ++ zone) = e ∙ (ap (λ t. t ++ zone) p.text_is ∙ append_assoc p.minus p.year zone) in
    let r = four_digits p.minus p.year zone y.0 y.1 p.is_minus p.is_year.digits (no_digit zone z) y.3 y.4 (starts_no_digit y.1 (zone_starts y.1 y.5)) (sym whole ∙ y.2) in
    let F = p.year ++ [] in
    let same : portion ≡ F = p.text_is ∙ (ap (λ t. t ++ p.year) r.no_sign ∙ sym (append-nil p.year)) in (
      F,
      [],
      zone,
      e ∙ ap (λ t. t ++ zone) same,
      has_form (codes "dddd") F (four_forms p.year [] [] p.is_year.digits r.four tt),
      subst (λ n. 1 ≤ n) (sym (year_number p.year [] p.is_year.digits r.four)) p.is_year.some,
      refl,
      zone_back zone z,
    )

space_year_month : (text portion zone : List ℕ) → IsYearMonthPortion portion → text ≡ portion ++ zone → IsTimezone zone → Lang (digits (codes "4") (month_tree zone_tree)) text
    → IsDateText kind.YearMonth text
space_year_month text portion zone p e z l =
    let y = digits_first (codes "4") (month_tree zone_tree) text l in
    let h = character_first 45 (digits (codes "2") zone_tree) y.1 y.5 in
    let more = 45 ∷ (p.month ++ zone) in
    let whole : text ≡ p.minus ++ (p.year ++ more) =
    e ∙ (ap (λ t. t ++ zone) p.text_is ∙ (append_assoc p.minus (p.year ++ (45 ∷ p.month)) zone ∙ ap (λ t. p.minus ++ t) (append_assoc p.year (45 ∷ p.month) zone))) in
    let r = four_digits p.minus p.year more y.0 y.1 p.is_minus p.is_year.digits (no_hyphen more (p.month ++ zone) refl) y.3 y.4 (no_hyphen y.1 h.0 h.1) (sym whole ∙ y.2) in
    let F = p.year ++ (45 ∷ (p.month ++ [])) in
    let same : portion ≡ F = p.text_is ∙ (ap (λ t. t ++ (p.year ++ (45 ∷ p.month))) r.no_sign ∙ ap (λ t. p.year ++ (45 ∷ t)) (sym (append-nil p.month))) in
    let n = month_numbers p.year p.month [] p.is_year.digits r.four p.is_month.two in (
      F,
      [],
      zone,
      e ∙ ap (λ t. t ++ zone) same,
      has_form (codes "dddd-dd") F (four_forms p.year (codes "-dd") (45 ∷ (p.month ++ [])) p.is_year.digits r.four (hyphen_forms (codes "dd") (p.month ++ []) (two_forms p.month [] [] p.is_month.two tt))),
      (subst (λ x. 1 ≤ x) (sym n.year_at) p.is_year.some, subst (λ x. 1 ≤ x) (sym n.month_at) p.is_month.least, subst (λ x. x ≤ 12) (sym n.month_at) p.is_month.most),
      refl,
      zone_back zone z,
    )

-- no part of a month or of a day is cut off
space_month_day : (text portion zone : List ℕ) → IsMonthDayPortion portion → text ≡ portion ++ zone → IsTimezone zone → IsDateText kind.MonthDay text
space_month_day text portion zone p e z =
    let F = 45 ∷ (45 ∷ (p.month ++ (45 ∷ (p.day ++ [])))) in
    let same : portion ≡ F = p.text_is ∙ ap (λ t. 45 ∷ (45 ∷ (p.month ++ (45 ∷ t)))) (sym (append-nil p.day)) in
    let mv = digits_value 10 p.month in
    let dv = digits_value 10 p.day in
    let day : IsDay 2000 mv dv =
    (lit≤ tt, ((record { le = tt }, to_signed 2000 9999 (lit≤ tt)), (to_signed 1 mv p.is_month.least, to_signed mv 12 p.is_month.most), (to_signed 1 dv p.is_day.least, to_signed dv (maximum_day 2000 mv) p.is_day.most))) in (
      F,
      [],
      zone,
      e ∙ ap (λ t. t ++ zone) same,
      has_form (codes "--dd-dd") F (hyphen_forms (codes "-dd-dd") (45 ∷ (p.month ++ (45 ∷ (p.day ++ [])))) (hyphen_forms (codes "dd-dd") (p.month ++ (45 ∷ (p.day ++ [])))
          (two_forms p.month (codes "-dd") (45 ∷ (p.day ++ [])) p.is_month.two (hyphen_forms (codes "dd") (p.day ++ []) (two_forms p.day [] [] p.is_day.two tt))))),
      same_day 2000 2000 mv (two_at F 2) dv (two_at F 5) refl (sym (month_number p.month (45 ∷ (p.day ++ [])) p.is_month.two)) (sym (day_behind_month p.month p.day [] p.is_month.two p.is_day.two)) day,
      refl,
      zone_back zone z,
    )

space_month : (text portion zone : List ℕ) → IsMonthPortion portion → text ≡ portion ++ zone → IsTimezone zone → IsDateText kind.Month text
space_month text portion zone p e z =
    let F = 45 ∷ (45 ∷ (p.month ++ [])) in
    let same : portion ≡ F = p.text_is ∙ ap (λ t. 45 ∷ (45 ∷ t)) (sym (append-nil p.month)) in
    let n = month_number p.month [] p.is_month.two in (
      F,
      [],
      zone,
      e ∙ ap (λ t. t ++ zone) same,
      has_form (codes "--dd") F (hyphen_forms (codes "-dd") (45 ∷ (p.month ++ [])) (hyphen_forms (codes "dd") (p.month ++ []) (two_forms p.month [] [] p.is_month.two tt))),
      (subst (λ x. 1 ≤ x) (sym n) p.is_month.least, subst (λ x. x ≤ 12) (sym n) p.is_month.most),
      refl,
      zone_back zone z,
    )

space_day : (text portion zone : List ℕ) → IsDayPortion portion → text ≡ portion ++ zone → IsTimezone zone → IsDateText kind.Day text
space_day text portion zone p e z =
    let F = 45 ∷ (45 ∷ (45 ∷ (p.day ++ []))) in
    let same : portion ≡ F = p.text_is ∙ ap (λ t. 45 ∷ (45 ∷ (45 ∷ t))) (sym (append-nil p.day)) in
    let n = day_number p.day [] p.is_day.two in (
      F,
      [],
      zone,
      e ∙ ap (λ t. t ++ zone) same,
      has_form (codes "---dd") F (hyphen_forms (codes "--dd") (45 ∷ (45 ∷ (p.day ++ []))) (hyphen_forms (codes "-dd") (45 ∷ (p.day ++ [])) (hyphen_forms (codes "dd") (p.day ++ []) (two_forms p.day [] [] p.is_day.two tt)))),
      (subst (λ x. 1 ≤ x) (sym n) p.is_day.least, subst (λ x. x ≤ 31) (sym n) p.is_day.most),
      refl,
      zone_back zone z,
    )

-- ---- all kinds

-- a text of the space that the pattern has is one of the profile
pub space_in_profile : (k : Kind) (text : List ℕ) → IsDateSpace k text → Matches (chars (profile_pattern k)) text → IsDateText k text
space_in_profile kind.Date text s m = space_date text s.portion s.zone s.is_portion s.text_is s.is_zone (word_of_tree kind.Date text m)
space_in_profile kind.DateTime text s m = space_date_time text s.portion s.zone s.is_portion s.text_is s.is_zone (word_of_tree kind.DateTime text m)
space_in_profile kind.Time text s m = space_time text s.portion s.zone s.is_portion s.text_is s.is_zone (word_of_tree kind.Time text m)
space_in_profile kind.Year text s m = space_year text s.portion s.zone s.is_portion s.text_is s.is_zone (word_of_tree kind.Year text m)
space_in_profile kind.YearMonth text s m = space_year_month text s.portion s.zone s.is_portion s.text_is s.is_zone (word_of_tree kind.YearMonth text m)
space_in_profile kind.MonthDay text s m = space_month_day text s.portion s.zone s.is_portion s.text_is s.is_zone
space_in_profile kind.Month text s m = space_month text s.portion s.zone s.is_portion s.text_is s.is_zone
space_in_profile kind.Day text s m = space_day text s.portion s.zone s.is_portion s.text_is s.is_zone
space_in_profile kind.Text text s m = absurd s.is_portion
space_in_profile kind.Decimal text s m = absurd s.is_portion
space_in_profile kind.Boolean text s m = absurd s.is_portion
space_in_profile kind.Binary text s m = absurd s.is_portion
space_in_profile kind.Envelope text s m = absurd s.is_portion
