-- The texts of dates and truth values are short, and they and the texts of decimals and octets have no white space.
use Rattle.std.proofs.Common.{◌≡◌, ◌≢◌, ◌==◌, ℕ, zero, suc, slice_index, ◌<◌, ◌≤◌, ◌⊎◌, inl, inr, Bool, true, false, List, [], ◌∷◌, ◌++◌, length, refl, codes, sym, ap, subst, arith, length-append, not, ◌&&◌, nat_le, nat_lt}
use Rattle.std.specs.Prelude.{encode_utf8_all}
use Rattle.std.proofs.lemmas.Bool.{and_parts, leb-true}
use Rattle.std.proofs.lemmas.Bool.Decides.{nat_tests}
use Rattle.std.proofs.lemmas.Str.{encode_ascii}
use Rattle.std.specs.List.{AllByRecursion}
use Rattle.std.specs.Char.{digit_value}
use Rattle.std.specs.Str.Parse.{AllDigits}
use Rattle.base64.specs.Engines.{standard}
use Rattle.lexical_core.specs.Characters.{IsSpace, IsXmlChar, IsXmlText}
use Rattle.data_types.specs.declared.kind.Kind.{Kind}
use Rattle.data_types.specs.declared.kind.Kind.TheVariants.{Text, Decimal, Boolean, Binary, Date, DateTime, Time, Year, YearMonth, MonthDay, Month, Day, Envelope}
use Rattle.data_types.specs.Kinds.{form_of, has_seconds}
use Rattle.data_types.specs.Booleans.{IsBooleanText}
use Rattle.data_types.specs.Dates.{FitsPlace, HasForm, IsFraction, IsZone, IsDateText}
use Rattle.data_types.specs.ShortTexts.{IsShort}

-- a character of ASCII that is seen, and that stands for itself in XML, also in the value of an attribute
pub record IsVisible (c : ℕ) : Type 0 where
  pub low : 33 ≤ c
  pub high : c < 127
  pub no_ampersand : c ≢ 38
  pub no_less : c ≢ 60
  pub no_greater : c ≢ 62
  pub no_quote : c ≢ 34

abbrev pub AreVisible : List ℕ → Type 0
AreVisible text = AllByRecursion IsVisible text

unfoldable pub visible : ℕ → Bool
visible c = nat_le 33 c && (nat_lt c 127 && (not (c == 38) && (not (c == 60) && (not (c == 62) && not (c == 34)))))

unfoldable pub all_visible : List ℕ → Bool
all_visible [] = true
all_visible (c ∷ cs) = visible c && all_visible cs

pub visible_is : (c : ℕ) → visible c ≡ true → IsVisible c
unfolding visible
visible_is c h = record {
  low = grind (arith, nat_tests);
  high = grind (arith, nat_tests);
  no_ampersand = grind (arith, nat_tests);
  no_less = grind (arith, nat_tests);
  no_greater = grind (arith, nat_tests);
  no_quote = grind (arith, nat_tests);
}

pub all_visible_are : (text : List ℕ) → all_visible text ≡ true → AreVisible text
unfolding all_visible
all_visible_are [] h = tt
all_visible_are (c ∷ cs) h = let parts = and_parts (visible c) (all_visible cs) h in (visible_is c parts.0, all_visible_are cs parts.1)

-- the characters of numbers and of base64
pub plus_visible : IsVisible 43
unfolding visible
plus_visible = visible_is 43 refl

pub minus_visible : IsVisible 45
unfolding visible
minus_visible = visible_is 45 refl

pub point_is_visible : IsVisible 46
unfolding visible
point_is_visible = visible_is 46 refl

pub pad_visible : IsVisible 61
unfolding visible
pad_visible = visible_is 61 refl

visible_at : (xs : List ℕ) (i : ℕ) → all_visible xs ≡ true → i < length xs → IsVisible (slice_index xs i)
unfolding all_visible
visible_at [] i h lt = absurd (omega (arith, lt))
visible_at (x ∷ xs) zero h lt = visible_is x (and_parts (visible x) (all_visible xs) h).0
visible_at (x ∷ xs) (suc i) h lt = visible_at xs i (and_parts (visible x) (all_visible xs) h).1 (omega (arith, lt))

pub table_visible : (i : ℕ) → i < 64 → IsVisible (slice_index standard.encode_table i)
unfolding visible all_visible
table_visible i lt = visible_at standard.encode_table i refl lt

pub join_visible : (a b : List ℕ) → AreVisible a → AreVisible b → AreVisible (a ++ b)
join_visible [] b ha hb = hb
join_visible (c ∷ a) b ha hb = (ha.0, join_visible a b ha.1 hb)

digit_visible : (c : ℕ) → digit_value c < 10 → IsVisible c
digit_visible c h = record {
  low = grind (arith, nat_tests);
  high = grind (arith, nat_tests);
  no_ampersand = grind (arith, nat_tests);
  no_less = grind (arith, nat_tests);
  no_greater = grind (arith, nat_tests);
  no_quote = grind (arith, nat_tests);
}

pub digits_visible : (digits : List ℕ) → AllDigits 10 digits → AreVisible digits
digits_visible [] h = tt
digits_visible (c ∷ cs) h = (digit_visible c h.0, digits_visible cs h.1)

place_visible : (place c : ℕ) → IsVisible place → FitsPlace place c → IsVisible c
place_visible place c v (inl h) = digit_visible c h.1
place_visible place c v (inr h) = subst IsVisible (sym h.1) v

pub form_visible : (form text : List ℕ) → AreVisible form → HasForm form text → AreVisible text
form_visible form [] v h = tt
form_visible [] (c ∷ cs) v h = absurd (let len = h.same_length in omega (arith, len))
form_visible (place ∷ form) (c ∷ cs) v h = (
  place_visible place c v.0 (h.each 0 (omega arith)),
  form_visible form cs v.1 (let len = h.same_length in record { same_length = omega (arith, len); each = λ k lt. h.each (suc k) (omega (arith, lt)) }),
)

form_of_visible : (kind : Kind) → all_visible (form_of kind) ≡ true
unfolding all_visible visible
form_of_visible Text = refl
form_of_visible Decimal = refl
form_of_visible Boolean = refl
form_of_visible Binary = refl
form_of_visible Date = refl
form_of_visible DateTime = refl
form_of_visible Time = refl
form_of_visible Year = refl
form_of_visible YearMonth = refl
form_of_visible MonthDay = refl
form_of_visible Month = refl
form_of_visible Day = refl
form_of_visible Envelope = refl

form_of_short : (kind : Kind) → nat_le (length (form_of kind)) 19 ≡ true
form_of_short Text = refl
form_of_short Decimal = refl
form_of_short Boolean = refl
form_of_short Binary = refl
form_of_short Date = refl
form_of_short DateTime = refl
form_of_short Time = refl
form_of_short Year = refl
form_of_short YearMonth = refl
form_of_short MonthDay = refl
form_of_short Month = refl
form_of_short Day = refl
form_of_short Envelope = refl

fraction_visible : (seconds : Bool) (text : List ℕ) → IsFraction seconds text → AreVisible text × (length text ≤ 10)
unfolding visible
fraction_visible false text e = (subst AreVisible (sym e) tt, omega (arith, ap length e))
fraction_visible true text (inl e) = (subst AreVisible (sym e) tt, omega (arith, ap length e))
fraction_visible true text (inr (digits, all, some, few, e)) =
    let point : IsVisible 46 = visible_is 46 refl in
    (subst AreVisible (sym e) (point, digits_visible digits all), omega (arith, ap length e, few))

sign_visible : (c : ℕ) → (c ≡ 43) ⊎ (c ≡ 45) → IsVisible c
unfolding visible
sign_visible c (inl e) = subst IsVisible (sym e) (visible_is 43 refl)
sign_visible c (inr e) = subst IsVisible (sym e) (visible_is 45 refl)

offset_form : AreVisible (codes "dd:dd")
unfolding visible all_visible
offset_form = all_visible_are (codes "dd:dd") refl

zone_visible : (text : List ℕ) → IsZone text → AreVisible text × (length text ≤ 6)
unfolding visible
zone_visible text (inl e) = (subst AreVisible (sym e) tt, omega (arith, ap length e))
zone_visible text (inr (inl e)) = (let z : IsVisible 90 = visible_is 90 refl in subst AreVisible (sym e) (z, tt), omega (arith, ap length e))
zone_visible [] (inr (inr o)) = (tt, omega arith)
zone_visible (c ∷ cs) (inr (inr o)) = (
  (sign_visible c o.sign, form_visible (codes "dd:dd") cs offset_form o.form),
  let len : length cs ≡ 5 = o.form.same_length in omega (arith, len),
)

pub date_visible : (kind : Kind) (text : List ℕ) → IsDateText kind text → AreVisible text × (length text ≤ 35)
date_visible kind text (fixed, fraction, zone, e, form, parts, f, z) =
    let fv = fraction_visible (has_seconds kind) fraction f in
    let zv = zone_visible zone z in
    let fixed_visible = form_visible (form_of kind) fixed (all_visible_are (form_of kind) (form_of_visible kind)) form in
    let size = leb-true (length (form_of kind)) 19 (form_of_short kind) in
    let same = form.same_length in (
      subst AreVisible (sym e) (join_visible fixed (fraction ++ zone) fixed_visible (join_visible fraction zone fv.0 zv.0)),
      omega (arith, ap length e, length-append fixed (fraction ++ zone), length-append fraction zone, size, same, fv.1, zv.1),
    )

ascii : (text : List ℕ) → AreVisible text → AllByRecursion (λ c. c < 128) text
ascii [] h = tt
ascii (c ∷ cs) h = (let high = h.0.high in omega (arith, high), ascii cs h.1)

pub date_short : (kind : Kind) (text : List ℕ) → IsDateText kind text → IsShort text
date_short kind text h = let v = date_visible kind text h in record { ascii = ascii text v.0; few = v.1 }

-- the texts of truth values
boolean_texts : AreVisible (codes "true") × AreVisible (codes "1") × AreVisible (codes "false") × AreVisible (codes "0")
unfolding visible all_visible
boolean_texts = (all_visible_are (codes "true") refl, all_visible_are (codes "1") refl, all_visible_are (codes "false") refl, all_visible_are (codes "0") refl)

pub boolean_visible : (flag : Bool) (text : List ℕ) → IsBooleanText flag text → AreVisible text × (length text ≤ 35)
boolean_visible true text (inl e) = (subst AreVisible (sym e) boolean_texts.0, omega (arith, ap length e))
boolean_visible true text (inr e) = (subst AreVisible (sym e) boolean_texts.1, omega (arith, ap length e))
boolean_visible false text (inl e) = (subst AreVisible (sym e) boolean_texts.2, omega (arith, ap length e))
boolean_visible false text (inr e) = (subst AreVisible (sym e) boolean_texts.3, omega (arith, ap length e))

pub boolean_short : (flag : Bool) (text : List ℕ) → IsBooleanText flag text → IsShort text
boolean_short flag text h = let v = boolean_visible flag text h in record { ascii = ascii text v.0; few = v.1 }

pub no_space : (text : List ℕ) → AreVisible text → AllByRecursion (λ c. IsSpace c → ⊥) text
no_space [] h = tt
no_space (c ∷ cs) h = (λ space. not_both c h.0 space, no_space cs h.1)
  where
    not_both : (c : ℕ) → IsVisible c → IsSpace c → ⊥
    not_both c v s = let low = v.low in elim s [
      | inl e ↦ omega (arith, e, low)
      | inr (inl e) ↦ omega (arith, e, low)
      | inr (inr (inl e)) ↦ omega (arith, e, low)
      | inr (inr (inr e)) ↦ omega (arith, e, low)
    ]

-- ---- a visible text is one of XML, and its bytes are its characters

visible_char : (c : ℕ) → IsVisible c → IsXmlChar c
visible_char c v = let low = v.low in let high = v.high in inl (omega (arith, low), omega (arith, high))

pub all_xml : (text : List ℕ) → AreVisible text → AllByRecursion IsXmlChar text
all_xml [] v = tt
all_xml (c ∷ cs) v = (visible_char c v.0, all_xml cs v.1)

pub own_bytes : (text : List ℕ) → AreVisible text → encode_utf8_all text ≡ text
own_bytes [] v = refl
own_bytes (c ∷ cs) v = (let high = v.0.high in let one = encode_ascii c (omega (arith, high)) in rw (one, own_bytes cs v.1) refl)

pub visible_xml : (text : List ℕ) → AreVisible text → IsXmlText text
visible_xml text v = (text, all_xml text v, own_bytes text v)
