-- What our profile admits of a date or a time is in the lexical space of its kind.
use Rattle.std.proofs.Common.{◌≡◌, ◌≢◌, ◌⊎◌, ℕ, ◌+◌, ◌*◌, ◌<◌, ◌≤◌, inl, inr, true, List, [], ◌∷◌, ◌++◌, length, refl, sym, ap, subst, ◌∙◌, arith, append-nil, append_assoc}
use Rattle.std.specs.Prelude.{codes}
use Rattle.std.specs.Str.Parse.{AllDigits, digits_value}
use Rattle.std.proofs.lemmas.Bool.{cases_lt}
use Rattle.data_types.specs.Dates.{IsDateText, HasForm, IsClock, IsDay, IsFraction, IsZone, IsOffset, two_at, four_at}
use Rattle.data_types.specs.declared.kind.Kind.{Kind}
use Rattle.data_types.specs.declared.kind.Kind.TheVariants as kind
use Rattle.xsd_model.specs.DateSpaces.{maximum_day, IsTwoDigits, IsYearNumeral, IsDatePortion, IsSecondFraction, IsTimePortion, IsZoneOffset, IsTimezone, IsYearPortion, IsYearMonthPortion, IsMonthDayPortion, IsMonthPortion, IsDayPortion, IsPortion, IsDateSpace}
use Rattle.xsd_model.proofs.DateProfiles.{Forms, forms, digits_front, is_char, nothing_left, clock_behind, no_seconds}
use Rattle.xsd_model.proofs.DateNumerals.{day_numbers, month_numbers, year_number, clock_numbers, day_tail, day_length, date_time_text, clock_tail, of_signed, same_day, offset_hour, offset_minute, month_number, day_behind_month, day_number}

-- ---- texts by their forms

two_front : (form text : List ℕ) → Forms (100 ∷ 100 ∷ form) text → (u : List ℕ) × (more : List ℕ) × (text ≡ u ++ more) × IsTwoDigits u × Forms form more
two_front form text f =
    let r = digits_front 2 form text f in
    (r.0, r.1, r.2, record { digits = r.4; two = r.3 }, r.5)

char_front : (p : ℕ) (form text : List ℕ) → p ≢ 100 → Forms (p ∷ form) text → (more : List ℕ) × (text ≡ p ∷ more) × Forms form more
char_front p form [] other f = absurd f
char_front p form (c ∷ text) other f = (text, ap (λ x. x ∷ text) (is_char p c other f.0), f.1)

-- a hyphen, two digits and more
record HyphenTwo (form text : List ℕ) : Type 0 where
  two : List ℕ
  more : List ℕ
  text_is : text ≡ 45 ∷ (two ++ more)
  is_two : IsTwoDigits two
  forms_more : Forms form more

hyphen_two : (form text : List ℕ) → Forms (45 ∷ 100 ∷ 100 ∷ form) text → HyphenTwo form text
hyphen_two form text f =
    let h = char_front 45 (100 ∷ 100 ∷ form) text (λ x. absurd (omega (arith, x))) f in
    let r = two_front form h.0 h.2 in
    record { two = r.0; more = r.1; text_is = h.1 ∙ ap (λ t. 45 ∷ t) r.2; is_two = r.3; forms_more = r.4 }

-- a year, a month, a day and more
record DayFront (form text : List ℕ) : Type 0 where
  year : List ℕ
  month : List ℕ
  day : List ℕ
  more : List ℕ
  text_is : text ≡ year ++ (45 ∷ (month ++ (45 ∷ (day ++ more))))
  digits : AllDigits 10 year
  four : length year ≡ 4
  is_month : IsTwoDigits month
  is_day : IsTwoDigits day
  forms_more : Forms form more

day_front : (form text : List ℕ) → Forms (codes "dddd-dd-dd" ++ form) text → DayFront form text
day_front form text f =
    let y = digits_front 4 (codes "-dd-dd" ++ form) text f in
    let m = hyphen_two (codes "-dd" ++ form) y.1 y.5 in
    let d = hyphen_two form m.more m.forms_more in
    record {
      year = y.0;
      month = m.two;
      day = d.two;
      more = d.more;
      text_is = y.2 ∙ ap (λ t. y.0 ++ t) (m.text_is ∙ ap (λ t. 45 ∷ (m.two ++ t)) d.text_is);
      digits = y.4;
      four = y.3;
      is_month = m.is_two;
      is_day = d.is_two;
      forms_more = d.forms_more;
    }

-- ---- dates

year_numeral : (year : List ℕ) → AllDigits 10 year → length year ≡ 4 → 1 ≤ digits_value 10 year → IsYearNumeral year
year_numeral year all len some = record { digits = all; least = omega (arith, len); no_zero = λ more. absurd (omega (arith, len, more)); some = some }

date_portion : (year month day : List ℕ) → AllDigits 10 year → length year ≡ 4 → IsTwoDigits month → IsTwoDigits day
    → IsDay (digits_value 10 year) (digits_value 10 month) (digits_value 10 day) → IsDatePortion (year ++ (45 ∷ (month ++ (45 ∷ day))))
date_portion year month day all len is_month is_day h =
    let y = digits_value 10 year in
    let m = digits_value 10 month in
    let d = digits_value 10 day in
    record {
      minus = [];
      year = year;
      month = month;
      day = day;
      text_is = refl;
      is_minus = inl refl;
      is_year = year_numeral year all len h.0;
      is_month = record { two = is_month; least = of_signed 1 m h.1.1.0; most = of_signed m 12 h.1.1.1 };
      is_day = record { two = is_day; least = of_signed 1 d h.1.2.0; most = of_signed d (maximum_day y m) h.1.2.1 };
    }

portion_front : (form text : List ℕ) → (d : DayFront form text) → IsDay (four_at text 0) (two_at text 5) (two_at text 8) → IsDatePortion (d.year ++ (45 ∷ (d.month ++ (45 ∷ d.day))))
portion_front form text d h =
    let now = subst (λ t. IsDay (four_at t 0) (two_at t 5) (two_at t 8)) d.text_is h in
    let n = day_numbers d.year d.month d.day d.more d.digits d.four d.is_month d.is_day in
    let T = d.year ++ (45 ∷ (d.month ++ (45 ∷ (d.day ++ d.more)))) in
    date_portion d.year d.month d.day d.digits d.four d.is_month d.is_day
    (same_day (four_at T 0) (digits_value 10 d.year) (two_at T 5) (digits_value 10 d.month) (two_at T 8) (digits_value 10 d.day) n.year_at n.month_at n.day_at now)

-- ---- times

second_fraction : (fraction : List ℕ) → IsFraction true fraction → (digits : List ℕ) × IsSecondFraction digits fraction
second_fraction fraction (inl none) = ([], (tt, inl (refl, none)))
second_fraction fraction (inr (ds, all, least, most, e)) = (ds, (all, inr (least, e)))

clock_portion : (hour minute second fraction : List ℕ) → IsTwoDigits hour → IsTwoDigits minute → IsTwoDigits second
    → digits_value 10 hour < 24 → digits_value 10 minute < 60 → digits_value 10 second < 60 → IsFraction true fraction
    → IsTimePortion (hour ++ (58 ∷ (minute ++ (58 ∷ (second ++ fraction)))))
clock_portion hour minute second fraction is_hour is_minute is_second h m s f =
    let r = second_fraction fraction f in
    record {
      hour = hour;
      minute = minute;
      second = second;
      digits = r.0;
      fraction = fraction;
      text_is = refl;
      is_hour = is_hour;
      is_minute = is_minute;
      is_second = is_second;
      is_fraction = r.1;
      in_day = inl (record { hours = omega (arith, h); minutes = omega (arith, m); seconds = omega (arith, s) });
    }

time_portion : (clock fraction : List ℕ) → Forms (codes "dd:dd:dd") clock → IsClock clock 0 → IsFraction true fraction → IsTimePortion (clock ++ fraction)
time_portion clock fraction f is fr =
    let colon : 58 ≢ 100 = λ x. absurd (omega (arith, x)) in
    let h = two_front (codes ":dd:dd") clock f in
    let p = char_front 58 (codes "dd:dd") h.1 colon h.4 in
    let m = two_front (codes ":dd") p.0 p.2 in
    let q = char_front 58 (codes "dd") m.1 colon m.4 in
    let s = two_front [] q.0 q.2 in
    let e : clock ≡ h.0 ++ (58 ∷ (m.0 ++ (58 ∷ (s.0 ++ [])))) =
    h.2 ∙ ap (λ t. h.0 ++ t) (p.1 ∙ ap (λ t. 58 ∷ t) (m.2 ∙ ap (λ t. m.0 ++ t) (q.1 ∙ ap (λ t. 58 ∷ t) (s.2 ∙ ap (λ t. s.0 ++ t) (nothing_left s.1 s.4))))) in
    let n = clock_numbers h.0 m.0 s.0 [] h.3 m.3 s.3 in
    let now = subst (λ t. IsClock t 0) e is in
    let portion = clock_portion h.0 m.0 s.0 fraction h.3 m.3 s.3 (subst (λ x. x < 24) n.hour_at now.0) (subst (λ x. x < 60) n.minute_at now.1) (subst (λ x. x < 60) n.second_at now.2) fr in
    subst IsTimePortion (sym (ap (λ t. t ++ fraction) (e ∙ ap (λ t. h.0 ++ (58 ∷ (m.0 ++ (58 ∷ t)))) (append-nil s.0)) ∙ clock_tail h.0 m.0 s.0 fraction)) portion

-- ---- zones

offset_most : (h m : ℕ) → m ≤ 59 → h * 60 + m ≤ 14 * 60 → ((h ≤ 13) × (m ≤ 59)) ⊎ ((h ≡ 14) × (m ≡ 0))
offset_most h m few most = elim (cases_lt h 14) [
  | inl lt ↦ inl (omega (arith, lt), few)
  | inr ge ↦ inr (omega (arith, ge, most), omega (arith, ge, most))
]

zone_offset : (text : List ℕ) → IsOffset text → IsZoneOffset text
zone_offset [] o = (let s = o.sign in absurd (elim s [ inl e ↦ omega (arith, e) | inr e ↦ omega (arith, e) ]))
zone_offset (c ∷ text) o =
    let h = two_front (codes ":dd") text (forms (codes "dd:dd") text o.form) in
    let p = char_front 58 (codes "dd") h.1 (λ x. absurd (omega (arith, x))) h.4 in
    let m = two_front [] p.0 p.2 in
    let e : text ≡ h.0 ++ (58 ∷ (m.0 ++ [])) = h.2 ∙ ap (λ t. h.0 ++ t) (p.1 ∙ ap (λ t. 58 ∷ t) (m.2 ∙ ap (λ t. m.0 ++ t) (nothing_left m.1 m.4))) in
    let hour_is : two_at (c ∷ text) 1 ≡ digits_value 10 h.0 = ap (λ t. two_at (c ∷ t) 1) e ∙ offset_hour c h.0 (58 ∷ (m.0 ++ [])) h.3 in
    let minute_is : two_at (c ∷ text) 4 ≡ digits_value 10 m.0 = ap (λ t. two_at (c ∷ t) 4) e ∙ offset_minute c h.0 m.0 [] h.3 m.3 in
    record {
      sign = c;
      hour = h.0;
      minute = m.0;
      text_is = ap (λ t. c ∷ t) (e ∙ ap (λ t. h.0 ++ (58 ∷ t)) (append-nil m.0));
      is_sign = o.sign;
      is_hour = h.3;
      is_minute = m.3;
      most = offset_most (digits_value 10 h.0) (digits_value 10 m.0) (subst (λ x. x ≤ 59) minute_is o.minutes)
          (subst (λ x. x * 60 + digits_value 10 m.0 ≤ 14 * 60) hour_is (subst (λ x. two_at (c ∷ text) 1 * 60 + x ≤ 14 * 60) minute_is o.most));
    }

timezone : (zone : List ℕ) → IsZone zone → IsTimezone zone
timezone zone (inl none) = inl none
timezone zone (inr (inl z)) = inr (inl z)
timezone zone (inr (inr o)) = inr (inr (zone_offset zone o))

-- ---- all kinds

date_space : (text fixed zone : List ℕ) → text ≡ fixed ++ zone → HasForm (codes "dddd-dd-dd") fixed → IsDay (four_at fixed 0) (two_at fixed 5) (two_at fixed 8) → IsZone zone → IsDateSpace kind.Date text
date_space text fixed zone e form is z =
    let d = day_front [] fixed (forms (codes "dddd-dd-dd") fixed form) in
    let whole : fixed ≡ d.year ++ (45 ∷ (d.month ++ (45 ∷ d.day))) =
    d.text_is ∙ ap (λ t. d.year ++ (45 ∷ (d.month ++ (45 ∷ t)))) (ap (λ t. d.day ++ t) (nothing_left d.more d.forms_more) ∙ append-nil d.day) in
    record { portion = fixed; zone = zone; text_is = e; is_portion = subst IsDatePortion (sym whole) (portion_front [] fixed d is); is_zone = timezone zone z }

date_time_space : (text fixed fraction zone : List ℕ) → text ≡ fixed ++ (fraction ++ zone) → HasForm (codes "dddd-dd-ddTdd:dd:dd") fixed
    → IsDay (four_at fixed 0) (two_at fixed 5) (two_at fixed 8) → IsClock fixed 11 → IsFraction true fraction → IsZone zone → IsDateSpace kind.DateTime text
date_time_space text fixed fraction zone e form is clock f z =
    let d = day_front (codes "Tdd:dd:dd") fixed (forms (codes "dddd-dd-ddTdd:dd:dd") fixed form) in
    let t = char_front 84 (codes "dd:dd:dd") d.more (λ x. absurd (omega (arith, x))) d.forms_more in
    let date = d.year ++ (45 ∷ (d.month ++ (45 ∷ d.day))) in
    let whole : fixed ≡ date ++ (84 ∷ t.0) = d.text_is ∙ (sym (day_tail d.year d.month d.day d.more) ∙ ap (λ x. date ++ x) t.1) in
    let front : fixed ≡ (date ++ (84 ∷ [])) ++ t.0 = whole ∙ sym (append_assoc date (84 ∷ []) t.0) in
    let here : IsClock t.0 0 =
    clock_behind (date ++ (84 ∷ [])) t.0 (day_length d.year d.month d.day d.digits d.four d.is_month d.is_day) (subst (λ x. IsClock x 11) front clock) in
    record {
      portion = date ++ (84 ∷ (t.0 ++ fraction));
      zone = zone;
      text_is = e ∙ (ap (λ x. x ++ (fraction ++ zone)) whole ∙ date_time_text date t.0 fraction zone);
      is_portion = record { date = date; time = t.0 ++ fraction; text_is = refl; is_date = portion_front (codes "Tdd:dd:dd") fixed d is; is_time = time_portion t.0 fraction t.2 here f };
      is_zone = timezone zone z;
    }

time_space : (text fixed fraction zone : List ℕ) → text ≡ fixed ++ (fraction ++ zone) → HasForm (codes "dd:dd:dd") fixed → IsClock fixed 0 → IsFraction true fraction → IsZone zone
    → IsDateSpace kind.Time text
time_space text fixed fraction zone e form clock f z =
    record {
      portion = fixed ++ fraction;
      zone = zone;
      text_is = e ∙ sym (append_assoc fixed fraction zone);
      is_portion = time_portion fixed fraction (forms (codes "dd:dd:dd") fixed form) clock f;
      is_zone = timezone zone z;
    }

year_portion : (fixed : List ℕ) → Forms (codes "dddd") fixed → 1 ≤ four_at fixed 0 → IsYearPortion fixed
year_portion fixed f some =
    let y = digits_front 4 [] fixed f in
    let n = year_number y.0 y.1 y.4 y.3 in
    record {
      minus = [];
      year = y.0;
      text_is = y.2 ∙ (ap (λ t. y.0 ++ t) (nothing_left y.1 y.5) ∙ append-nil y.0);
      is_minus = inl refl;
      is_year = year_numeral y.0 y.4 y.3 (subst (λ x. 1 ≤ x) (ap (λ t. four_at t 0) y.2 ∙ n) some);
    }

-- a year, its month and no more
year_month_portion : (fixed : List ℕ) → Forms (codes "dddd-dd") fixed → 1 ≤ four_at fixed 0 → 1 ≤ two_at fixed 5 → two_at fixed 5 ≤ 12 → IsYearMonthPortion fixed
year_month_portion fixed f some least most =
    let y = digits_front 4 (codes "-dd") fixed f in
    let m = hyphen_two [] y.1 y.5 in
    let whole : fixed ≡ y.0 ++ (45 ∷ (m.two ++ m.more)) = y.2 ∙ ap (λ t. y.0 ++ t) m.text_is in
    let n = month_numbers y.0 m.two m.more y.4 y.3 m.is_two in
    let month_is : two_at fixed 5 ≡ digits_value 10 m.two = ap (λ t. two_at t 5) whole ∙ n.month_at in
    record {
      minus = [];
      year = y.0;
      month = m.two;
      text_is = whole ∙ ap (λ t. y.0 ++ (45 ∷ t)) (ap (λ t. m.two ++ t) (nothing_left m.more m.forms_more) ∙ append-nil m.two);
      is_minus = inl refl;
      is_year = year_numeral y.0 y.4 y.3 (subst (λ x. 1 ≤ x) (ap (λ t. four_at t 0) whole ∙ n.year_at) some);
      is_month = record { two = m.is_two; least = subst (λ x. 1 ≤ x) month_is least; most = subst (λ x. x ≤ 12) month_is most };
    }

month_day_portion : (fixed : List ℕ) → Forms (codes "--dd-dd") fixed → IsDay 2000 (two_at fixed 2) (two_at fixed 5) → IsMonthDayPortion fixed
month_day_portion fixed f is =
    let h = char_front 45 (codes "-dd-dd") fixed (λ x. absurd (omega (arith, x))) f in
    let m = hyphen_two (codes "-dd") h.0 h.2 in
    let d = hyphen_two [] m.more m.forms_more in
    let whole : fixed ≡ 45 ∷ (45 ∷ (m.two ++ (45 ∷ (d.two ++ d.more)))) = h.1 ∙ ap (λ t. 45 ∷ t) (m.text_is ∙ ap (λ t. 45 ∷ (m.two ++ t)) d.text_is) in
    let month_is = ap (λ t. two_at t 2) whole ∙ month_number m.two (45 ∷ (d.two ++ d.more)) m.is_two in
    let day_is = ap (λ t. two_at t 5) whole ∙ day_behind_month m.two d.two d.more m.is_two d.is_two in
    let mv = digits_value 10 m.two in
    let dv = digits_value 10 d.two in
    let now : IsDay 2000 mv dv = same_day 2000 2000 (two_at fixed 2) mv (two_at fixed 5) dv refl month_is day_is is in
    record {
      month = m.two;
      day = d.two;
      text_is = whole ∙ ap (λ t. 45 ∷ (45 ∷ (m.two ++ (45 ∷ t)))) (ap (λ t. d.two ++ t) (nothing_left d.more d.forms_more) ∙ append-nil d.two);
      is_month = record { two = m.is_two; least = of_signed 1 mv now.1.1.0; most = of_signed mv 12 now.1.1.1 };
      is_day = record { two = d.is_two; least = of_signed 1 dv now.1.2.0; most = of_signed dv (maximum_day 2000 mv) now.1.2.1 };
    }

month_portion : (fixed : List ℕ) → Forms (codes "--dd") fixed → 1 ≤ two_at fixed 2 → two_at fixed 2 ≤ 12 → IsMonthPortion fixed
month_portion fixed f least most =
    let h = char_front 45 (codes "-dd") fixed (λ x. absurd (omega (arith, x))) f in
    let m = hyphen_two [] h.0 h.2 in
    let whole : fixed ≡ 45 ∷ (45 ∷ (m.two ++ m.more)) = h.1 ∙ ap (λ t. 45 ∷ t) m.text_is in
    let month_is = ap (λ t. two_at t 2) whole ∙ month_number m.two m.more m.is_two in
    record {
      month = m.two;
      text_is = whole ∙ ap (λ t. 45 ∷ (45 ∷ t)) (ap (λ t. m.two ++ t) (nothing_left m.more m.forms_more) ∙ append-nil m.two);
      is_month = record { two = m.is_two; least = subst (λ x. 1 ≤ x) month_is least; most = subst (λ x. x ≤ 12) month_is most };
    }

day_portion : (fixed : List ℕ) → Forms (codes "---dd") fixed → 1 ≤ two_at fixed 3 → two_at fixed 3 ≤ 31 → IsDayPortion fixed
day_portion fixed f least most =
    let h = char_front 45 (codes "--dd") fixed (λ x. absurd (omega (arith, x))) f in
    let g = char_front 45 (codes "-dd") h.0 (λ x. absurd (omega (arith, x))) h.2 in
    let d = hyphen_two [] g.0 g.2 in
    let whole : fixed ≡ 45 ∷ (45 ∷ (45 ∷ (d.two ++ d.more))) = h.1 ∙ ap (λ t. 45 ∷ t) (g.1 ∙ ap (λ t. 45 ∷ t) d.text_is) in
    let day_is = ap (λ t. two_at t 3) whole ∙ day_number d.two d.more d.is_two in
    record {
      day = d.two;
      text_is = whole ∙ ap (λ t. 45 ∷ (45 ∷ (45 ∷ t))) (ap (λ t. d.two ++ t) (nothing_left d.more d.forms_more) ∙ append-nil d.two);
      is_day = record { two = d.is_two; least = subst (λ x. 1 ≤ x) day_is least; most = subst (λ x. x ≤ 31) day_is most };
    }

in_space : (k : Kind) (text portion zone : List ℕ) → text ≡ portion ++ zone → IsPortion k portion → IsZone zone → IsDateSpace k text
in_space k text portion zone e p z = record { portion = portion; zone = zone; text_is = e; is_portion = p; is_zone = timezone zone z }

-- a text of the profile is one of the space
pub profile_in_space : (k : Kind) (text : List ℕ) → IsDateText k text → IsDateSpace k text
profile_in_space kind.Date text (fixed, fraction, zone, e, form, parts, f, z) = date_space text fixed zone (no_seconds text fixed fraction zone e f) form parts z
profile_in_space kind.DateTime text (fixed, fraction, zone, e, form, parts, f, z) = date_time_space text fixed fraction zone e form parts.0 parts.1 f z
profile_in_space kind.Time text (fixed, fraction, zone, e, form, parts, f, z) = time_space text fixed fraction zone e form parts f z
profile_in_space kind.Year text (fixed, fraction, zone, e, form, parts, f, z) =
    in_space kind.Year text fixed zone (no_seconds text fixed fraction zone e f) (year_portion fixed (forms (codes "dddd") fixed form) parts) z
profile_in_space kind.YearMonth text (fixed, fraction, zone, e, form, parts, f, z) =
    in_space kind.YearMonth text fixed zone (no_seconds text fixed fraction zone e f) (year_month_portion fixed (forms (codes "dddd-dd") fixed form) parts.0 parts.1 parts.2) z
profile_in_space kind.MonthDay text (fixed, fraction, zone, e, form, parts, f, z) =
    in_space kind.MonthDay text fixed zone (no_seconds text fixed fraction zone e f) (month_day_portion fixed (forms (codes "--dd-dd") fixed form) parts) z
profile_in_space kind.Month text (fixed, fraction, zone, e, form, parts, f, z) =
    in_space kind.Month text fixed zone (no_seconds text fixed fraction zone e f) (month_portion fixed (forms (codes "--dd") fixed form) parts.0 parts.1) z
profile_in_space kind.Day text (fixed, fraction, zone, e, form, parts, f, z) =
    in_space kind.Day text fixed zone (no_seconds text fixed fraction zone e f) (day_portion fixed (forms (codes "---dd") fixed form) parts.0 parts.1) z
profile_in_space kind.Text text (fixed, fraction, zone, e, form, parts, f, z) = absurd parts
profile_in_space kind.Decimal text (fixed, fraction, zone, e, form, parts, f, z) = absurd parts
profile_in_space kind.Boolean text (fixed, fraction, zone, e, form, parts, f, z) = absurd parts
profile_in_space kind.Binary text (fixed, fraction, zone, e, form, parts, f, z) = absurd parts
profile_in_space kind.Envelope text (fixed, fraction, zone, e, form, parts, f, z) = absurd parts
