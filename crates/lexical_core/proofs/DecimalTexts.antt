-- Decimal texts character by character: their parts are the only ones, and where no text goes on.
use Rattle.std.proofs.Common.{◌≡◌, ◌≢◌, ℕ, ◌+◌, ◌*◌, ◌<◌, ◌≤◌, ◌⊎◌, inl, inr, Bool, true, false, List, [], ◌∷◌, ◌++◌, length, Option, Some, None, refl, sym, ap, subst, ◌∙◌, arith, append_assoc, length-append, lit≤, lt-ltb}
use Rattle.std.proofs.lemmas.List.{append-nil}
use Rattle.std.proofs.lemmas.Int.Digits.{digits_value_push, digits_push}
use Rattle.std.proofs.lemmas.Str.{digit_value_digit}
use Rattle.std.specs.Char.{digit_value}
use Rattle.std.specs.Int.{is_in_range}
use Rattle.std.proofs.lemmas.Bool.{cases_lt}
use Rattle.std.proofs.lemmas.Bool.Decides.{nat_tests}
use Rattle.std.specs.Str.Parse.{AllDigits, digits_value}
use Rattle.lexical_core.specs.Decimals.{IsNumber, DecimalParts, fraction_digits, point_text, decimal_spelling, IsSign, AreParts, IsDecimalText}
use Rattle.lexical_core.specs.Exponents.{NoDigit}
use Rattle.lexical_core.specs.DecimalAnswers.{IsDecimalAnswer}
use Rattle.lexical_core.specs.DecimalSoFar.{AreDigitsOf, IsDigitsAnswer, ReadWhole, ReadFraction, BeginsNone, HasRead, HasReadIn}
use Rattle.lexical_core.specs.declared.decimal_text.DecimalText.{DecimalText}
use Rattle.lexical_core.specs.declared.decimal_text.DecimalText.TheVariants.{Value, TooLong, Bad}
use Rattle.lexical_core.specs.declared.decimal_text.Stage.{Stage}
use Rattle.lexical_core.specs.declared.decimal_text.DecimalStep.{DecimalStep}
use Rattle.lexical_core.proofs.Lists.{nothing_joined}

-- a text begins with no sign
abbrev pub NoSign : List ℕ → Type 0
NoSign [] = Unit {0}
NoSign (c ∷ cs) = (c ≢ 43) × (c ≢ 45)

-- a text is a sign or nothing
abbrev OneSign : List ℕ → Type 0
OneSign [] = Unit {0}
OneSign (c ∷ []) = (c ≡ 43) ⊎ (c ≡ 45)
OneSign (c ∷ d ∷ cs) = ⊥

OneSign-from : (b : Bool) (sign : List ℕ) → IsSign b sign → OneSign sign
OneSign-from false sign (inl e) = subst OneSign (sym e) tt
OneSign-from false sign (inr e) = subst OneSign (sym e) (inl refl)
OneSign-from true sign e = subst OneSign (sym e) (inr refl)

no_such_sign : (c : ℕ) → (c ≡ 43) ⊎ (c ≡ 45) → (c ≢ 43) × (c ≢ 45) → ⊥
no_such_sign c (inl e) n = n.0 e
no_such_sign c (inr e) n = n.1 e

sign_split : (s s' x y : List ℕ) → OneSign s → OneSign s' → s ++ x ≡ s' ++ y → NoSign y → (s ≡ [] → NoSign x) → (s ≡ s') × (x ≡ y)
sign_split [] [] x y o o' e ny nx = (refl, e)
sign_split [] (c ∷ []) x y o o' e ny nx = absurd (no_such_sign c o' (subst NoSign e (nx refl)))
sign_split [] (c ∷ d ∷ cs) x y o o' e ny nx = absurd o'
sign_split (c ∷ []) [] x y o o' e ny nx = absurd (no_such_sign c o (subst NoSign (sym e) ny))
sign_split (c ∷ []) (d ∷ []) x y o o' e ny nx = (cc, cc)
sign_split (c ∷ []) (d ∷ f ∷ ds) x y o o' e ny nx = absurd o'
sign_split (c ∷ d ∷ cs) s' x y o o' e ny nx = absurd o

pub digits_split : (ds bs x y : List ℕ) → AllDigits 10 ds → AllDigits 10 bs → ds ++ x ≡ bs ++ y → NoDigit x → NoDigit y → (ds ≡ bs) × (x ≡ y)
digits_split [] [] x y da db e nx ny = (refl, e)
digits_split [] (b ∷ bs) x y da db e nx ny = absurd (let high : 10 ≤ digit_value b = subst NoDigit e nx in let low = db.0 in omega arith)
digits_split (a ∷ ds) [] x y da db e nx ny = absurd (let high : 10 ≤ digit_value a = subst NoDigit (sym e) ny in let low = da.0 in omega arith)
digits_split (a ∷ ds) (b ∷ bs) x y da db e nx ny =
    let first : a ≡ b = cc in
    let rest : ds ++ x ≡ bs ++ y = cc in
    let more = digits_split ds bs x y da.1 db.1 rest nx ny in
    (let tail = more.0 in cc, more.1)

digit_no_sign : (c : ℕ) → digit_value c < 10 → (c ≢ 43) × (c ≢ 45)
digit_no_sign c low = (λ e. absurd (let h = subst (λ d. digit_value d < 10) e low in omega arith), λ e. absurd (let h = subst (λ d. digit_value d < 10) e low in omega arith))

pub NoSign-digits : (ds tail : List ℕ) → AllDigits 10 ds → NoSign tail → NoSign (ds ++ tail)
NoSign-digits [] tail all n = n
NoSign-digits (d ∷ ds) tail all n = digit_no_sign d all.0

pub NoSign-point : (o : Option (List ℕ)) → NoSign (point_text o)
NoSign-point None = tt
NoSign-point (Some ds) = (λ e. omega arith, λ e. omega arith)

pub NoDigit-point : (o : Option (List ℕ)) → NoDigit (point_text o)
NoDigit-point None = tt
NoDigit-point (Some ds) = lit≤ tt

-- the parts of a text that begins with these
pub body_same : (b b' : Bool) (sign ds tail : List ℕ) (p : DecimalParts) → IsSign b sign → AllDigits 10 ds → NoDigit tail → (sign ≡ [] → NoSign (ds ++ tail))
    → AreParts b' p → sign ++ (ds ++ tail) ≡ decimal_spelling p → (sign ≡ p.sign) × (ds ≡ p.whole) × (tail ≡ point_text p.fraction)
body_same b b' sign ds tail p is all none no_sign parts e =
    let one = sign_split sign p.sign (ds ++ tail) (p.whole ++ point_text p.fraction) (OneSign-from b sign is) (OneSign-from b' p.sign parts.sign) e
    (NoSign-digits p.whole (point_text p.fraction) parts.whole (NoSign-point p.fraction)) no_sign in
    let two = digits_split ds p.whole tail (point_text p.fraction) all parts.whole one.1 none (NoDigit-point p.fraction) in
    (one.0, two.0, two.1)

point_none : (o : Option (List ℕ)) → [] ≡ point_text o → fraction_digits o ≡ []
point_none None e = refl
point_none (Some ds) e = absurd (cc)

point_some : (o : Option (List ℕ)) (ds : List ℕ) → 46 ∷ ds ≡ point_text o → ds ≡ fraction_digits o
point_some None ds e = absurd (cc)
point_some (Some fs) ds e = cc

point_begins : (o : Option (List ℕ)) (c : ℕ) (more : List ℕ) → c ∷ more ≡ point_text o → c ≡ 46
point_begins None c more e = absurd (cc)
point_begins (Some fs) c more e = cc

digits_before : (xs ys : List ℕ) → AllDigits 10 (xs ++ ys) → AllDigits 10 ys
digits_before [] ys all = all
digits_before (x ∷ xs) ys all = digits_before xs ys all.1

-- where no text goes on
no_sign_here : (ds more : List ℕ) (c : ℕ) → AllDigits 10 ds → (ds ≡ [] → (c ≢ 43) × (c ≢ 45)) → NoSign (ds ++ c ∷ more)
no_sign_here [] more c all none = none refl
no_sign_here (d ∷ ds) more c all none = digit_no_sign d all.0

pub no_more_whole : (s : DecimalStep) (text : List ℕ) (c : ℕ) → ReadWhole s text → 10 ≤ digit_value c → c ≢ 46 → (text ≡ [] → (c ≢ 43) × (c ≢ 45)) → BeginsNone (text ++ c ∷ [])
no_more_whole s text c w high no_point no_sign more t =
    let flat : w.sign ++ (w.digits ++ c ∷ more) ≡ decimal_spelling t.1 =
    sym (ap (λ x. (x ++ c ∷ []) ++ more) w.spelled ∙ simp append_assoc) ∙ t.3 in
    let same = body_same s.negative t.0 w.sign w.digits (c ∷ more) t.1 w.sign_is w.are_digits high
    (λ none. no_sign_here w.digits more c w.are_digits (λ empty. no_sign (w.spelled ∙ (ap (λ x. x ++ w.digits) none ∙ empty)))) t.2 flat in
    no_point (point_begins t.1.fraction c more same.2)

pub no_more_fraction : (s : DecimalStep) (text : List ℕ) (c : ℕ) → ReadFraction s text → 10 ≤ digit_value c → BeginsNone (text ++ c ∷ [])
no_more_fraction s text c w high more t =
    let flat : w.sign ++ (w.digits ++ 46 ∷ (w.after ++ c ∷ more)) ≡ decimal_spelling t.1 =
    sym (ap (λ x. (x ++ c ∷ []) ++ more) w.spelled ∙ simp append_assoc) ∙ t.3 in
    let same = body_same s.negative t.0 w.sign w.digits (46 ∷ (w.after ++ c ∷ more)) t.1 w.sign_is w.are_digits (lit≤ tt)
    (λ none. NoSign-digits w.digits (46 ∷ (w.after ++ c ∷ more)) w.are_digits (λ e. omega arith, λ e. omega arith)) t.2 flat in
    let digits = subst (AllDigits 10) (sym (point_some t.1.fraction (w.after ++ c ∷ more) same.2)) t.2.fraction in
    let here = (digits_before w.after (c ∷ more) digits).0 in
    omega arith

digit_is : (c digit : ℕ) → digit + 48 ≡ c → digit < 10 → digit_value c ≡ digit
digit_is c digit e low = let h = digit_value_digit c (omega arith, omega arith) in omega arith

pub whole_digit : (s s' : DecimalStep) (text : List ℕ) (c digit : ℕ) → ReadWhole s text → digit + 48 ≡ c → digit < 10 → s'.negative ≡ s.negative
    → s'.digits.some ≡ true → ((value : ℕ) → AreDigitsOf s.digits value 0 → AreDigitsOf s'.digits (value * 10 + digit) 0)
    → ReadWhole s' (text ++ c ∷ []) × (0 < length (text ++ c ∷ []))
whole_digit s s' text c digit w e low same some grows =
    let is = digit_is c digit e low in
    let value = digits_value_push 10 w.digits c ∙ ap (λ d. digits_value 10 w.digits * 10 + d) is in (
      record {
        sign = w.sign;
        digits = w.digits ++ c ∷ [];
        sign_is = subst (λ b. IsSign b w.sign) (sym same) w.sign_is;
        are_digits = digits_push 10 w.digits c w.are_digits (omega arith);
        spelled = ap (λ t. t ++ c ∷ []) w.spelled ∙ append_assoc w.sign w.digits (c ∷ []);
        some = λ h. omega (arith, length-append w.digits (c ∷ []));
        none = λ h. absurd (cc);
        number = subst (λ v. AreDigitsOf s'.digits v 0) (sym value) (grows (digits_value 10 w.digits) w.number);
      },
      omega (arith, length-append text (c ∷ [])),
    )

pub fraction_digit : (s s' : DecimalStep) (text : List ℕ) (c digit : ℕ) → ReadFraction s text → digit + 48 ≡ c → digit < 10 → s'.negative ≡ s.negative
    → s'.digits.some ≡ true → ((value count : ℕ) → AreDigitsOf s.digits value count → AreDigitsOf s'.digits (value * 10 + digit) (count + 1))
    → ReadFraction s' (text ++ c ∷ [])
fraction_digit s s' text c digit w e low same some grows =
    let is = digit_is c digit e low in
    let all = w.digits ++ w.after in
    let value = ap (digits_value 10) (sym (append_assoc w.digits w.after (c ∷ []))) ∙ (digits_value_push 10 all c ∙ ap (λ d. digits_value 10 all * 10 + d) is) in
    let grown = grows (digits_value 10 all) (length w.after) w.number in
    let count = length-append w.after (c ∷ []) in
    record {
      sign = w.sign;
      digits = w.digits;
      after = w.after ++ c ∷ [];
      sign_is = subst (λ b. IsSign b w.sign) (sym same) w.sign_is;
      are_digits = w.are_digits;
      are_after = digits_push 10 w.after c w.are_after (omega arith);
      spelled = ap (λ t. t ++ c ∷ []) w.spelled ∙ simp append_assoc;
      some = λ h. omega arith;
      none = λ h. absurd (cc);
      number = subst (λ n. AreDigitsOf s'.digits (digits_value 10 (w.digits ++ (w.after ++ c ∷ []))) n) (sym count)
          (subst (λ v. AreDigitsOf s'.digits v (length w.after + 1)) (sym value) grown);
    }

not_minus : (negative : Bool) (sign : List ℕ) → IsSign negative sign → sign ≡ [] → negative ≡ false
not_minus false sign is e = refl
not_minus true sign is e = absurd (cc)

-- before the first character
pub not_negative : (s : DecimalStep) (text : List ℕ) → ReadWhole s text → text ≡ [] → s.negative ≡ false
not_negative s text w none = not_minus s.negative w.sign w.sign_is (nothing_joined w.sign w.digits (sym none ∙ w.spelled)).0

pub first_sign : (s s' : DecimalStep) (text : List ℕ) (c : ℕ) → ReadWhole s text → text ≡ [] → IsSign s'.negative (c ∷ []) → s'.digits ≡ s.digits
    → ReadWhole s' (text ++ c ∷ []) × (0 < length (text ++ c ∷ []))
first_sign s s' text c w none is digits =
    let empty = nothing_joined w.sign w.digits (sym none ∙ w.spelled) in (
      record {
        sign = c ∷ [];
        digits = [];
        sign_is = is;
        are_digits = tt;
        spelled = ap (λ t. t ++ c ∷ []) none;
        some = λ h. let more = w.some (sym (ap (λ (d : _). d.some) digits) ∙ h) in omega (arith, ap length empty.1);
        none = λ h. refl;
        number = subst (λ (d : _). AreDigitsOf d 0 0) (sym digits) (subst (λ ds. AreDigitsOf s.digits (digits_value 10 ds) 0) empty.1 w.number);
      },
      omega (arith, length-append text (c ∷ [])),
    )

pub empty_is_none : IsDecimalText [] → ⊥
empty_is_none t =
    let one = nothing_joined t.1.sign (t.1.whole ++ point_text t.1.fraction) t.3 in
    let two = nothing_joined t.1.whole (point_text t.1.fraction) (sym one.1) in
    let some = t.2.some in
    omega (arith, ap length two.0, ap length (point_none t.1.fraction (sym two.1)))

-- the parts of a text with no point
whole_parts_are : (s : DecimalStep) (text : List ℕ) (w : ReadWhole s text) (b : Bool) (p : DecimalParts) → AreParts b p → text ≡ decimal_spelling p
    → (w.digits ≡ p.whole) × ([] ≡ fraction_digits p.fraction)
whole_parts_are s text w b p parts e =
    let flat : w.sign ++ (w.digits ++ []) ≡ decimal_spelling p = ap (λ t. w.sign ++ t) (append-nil w.digits) ∙ (sym w.spelled ∙ e) in
    let same = body_same s.negative b w.sign w.digits [] p w.sign_is w.are_digits tt (λ none. NoSign-digits w.digits [] w.are_digits tt) parts flat in
    (same.1, sym (point_none p.fraction same.2))

whole_are : (s : DecimalStep) (text : List ℕ) (w : ReadWhole s text) → s.digits.some ≡ true
    → AreParts s.negative (record { sign = w.sign; whole = w.digits; fraction = None })
whole_are s text w some = record { sign = w.sign_is; whole = w.are_digits; fraction = tt; some = omega (arith, w.some some) }

whole_spelled : (s : DecimalStep) (text : List ℕ) (w : ReadWhole s text) → text ≡ w.sign ++ (w.digits ++ [])
whole_spelled s text w = w.spelled ∙ ap (λ t. w.sign ++ t) (sym (append-nil w.digits))

-- the answer on a text with no point
pub whole_answer : (s : DecimalStep) (text : List ℕ) (answer : DecimalText) (w : ReadWhole s text)
    → IsDigitsAnswer s.negative (digits_value 10 w.digits) 0 s.digits.some answer → IsDecimalAnswer text answer
whole_answer s text (Value n) w a = (
  a.1,
  (
    s.negative,
    record { sign = w.sign; whole = w.digits; fraction = None },
    record { parts = whole_are s text w a.0; number = subst (λ ds. IsNumber s.negative (digits_value 10 ds) 0 n) (sym (append-nil w.digits)) a.2 },
    whole_spelled s text w,
  ),
)
whole_answer s text TooLong w a = (
  (s.negative, record { sign = w.sign; whole = w.digits; fraction = None }, whole_are s text w a.0, whole_spelled s text w),
  λ n d t. let same = whole_parts_are s text w t.0 t.1 t.2.parts t.3 in
      let value : t.1.whole ++ fraction_digits t.1.fraction ≡ w.digits =
      ap (λ x. t.1.whole ++ x) (sym same.1) ∙ (append-nil t.1.whole ∙ sym same.0) in
      let number = subst (λ ds. IsNumber t.0 (digits_value 10 ds) (length (fraction_digits t.1.fraction)) n) value t.2.number in
      a.1 t.0 n d (subst (λ ds. IsNumber t.0 (digits_value 10 w.digits) (length ds) n) (sym same.1) number),
)
whole_answer s text Bad w a =
    λ t. let same = whole_parts_are s text w t.0 t.1 t.2 t.3 in
    let some = t.2.some in
    omega (arith, ap length (w.none a), ap length same.0, ap length same.1)

fraction_parts_are : (s : DecimalStep) (text : List ℕ) (w : ReadFraction s text) (b : Bool) (p : DecimalParts) → AreParts b p → text ≡ decimal_spelling p
    → (w.digits ≡ p.whole) × (w.after ≡ fraction_digits p.fraction)
fraction_parts_are s text w b p parts e =
    let same = body_same s.negative b w.sign w.digits (46 ∷ w.after) p w.sign_is w.are_digits (lit≤ tt)
    (λ none. NoSign-digits w.digits (46 ∷ w.after) w.are_digits (λ e. omega arith, λ e. omega arith)) parts (sym w.spelled ∙ e) in
    (same.1, point_some p.fraction w.after same.2)

fraction_are : (s : DecimalStep) (text : List ℕ) (w : ReadFraction s text) → s.digits.some ≡ true
    → AreParts s.negative (record { sign = w.sign; whole = w.digits; fraction = Some w.after })
fraction_are s text w some = record { sign = w.sign_is; whole = w.are_digits; fraction = w.are_after; some = w.some some }

-- the answer on a text with a point
pub fraction_answer : (s : DecimalStep) (text : List ℕ) (answer : DecimalText) (w : ReadFraction s text)
    → IsDigitsAnswer s.negative (digits_value 10 (w.digits ++ w.after)) (length w.after) s.digits.some answer → IsDecimalAnswer text answer
fraction_answer s text (Value n) w a = (
  a.1,
  (
    s.negative,
    record { sign = w.sign; whole = w.digits; fraction = Some w.after },
    record { parts = fraction_are s text w a.0; number = a.2 },
    w.spelled,
  ),
)
fraction_answer s text TooLong w a = (
  (s.negative, record { sign = w.sign; whole = w.digits; fraction = Some w.after }, fraction_are s text w a.0, w.spelled),
  λ n d t. let same = fraction_parts_are s text w t.0 t.1 t.2.parts t.3 in
      let value : t.1.whole ++ fraction_digits t.1.fraction ≡ w.digits ++ w.after =
      ap (λ x. x ++ fraction_digits t.1.fraction) (sym same.0) ∙ ap (λ x. w.digits ++ x) (sym same.1) in
      let number = subst (λ ds. IsNumber t.0 (digits_value 10 ds) (length (fraction_digits t.1.fraction)) n) value t.2.number in
      a.1 t.0 n d (subst (λ ds. IsNumber t.0 (digits_value 10 (w.digits ++ w.after)) (length ds) n) (sym same.1) number),
)
fraction_answer s text Bad w a =
    λ t. let same = fraction_parts_are s text w t.0 t.1 t.2 t.3 in
    let some = t.2.some in
    omega (arith, ap length (w.none a).0, ap length (w.none a).1, ap length same.0, ap length same.1)

pub HasRead-from : (stage : Stage) (s : DecimalStep) (text : List ℕ) → s.stage ≡ stage → HasReadIn stage s text → HasRead s text
HasRead-from stage s text e h = subst (λ g. HasReadIn g s text) (sym e) h

pub HasReadIn-from : (stage : Stage) (s : DecimalStep) (text : List ℕ) → s.stage ≡ stage → HasRead s text → HasReadIn stage s text
HasReadIn-from stage s text e h = subst (λ g. HasReadIn g s text) e h

pub BeginsNone-more : (text : List ℕ) (c : ℕ) → BeginsNone text → BeginsNone (text ++ c ∷ [])
BeginsNone-more text c none more t = none (c ∷ more) (subst IsDecimalText (append_assoc text (c ∷ []) more) t)

pub BeginsNone-whole : (text : List ℕ) → BeginsNone text → IsDecimalText text → ⊥
BeginsNone-whole text none t = none [] (subst IsDecimalText (sym (append-nil text)) t)

pub no_digit : (c : ℕ) → is_in_range 48 57 c ≡ false → 10 ≤ digit_value c
no_digit c h = elim (cases_lt c 48) [
  | inl low ↦ rw (lt-ltb c 48 low) (lit≤ tt)
  | inr up ↦ let high : 58 ≤ c = grind (arith, nat_tests) in grind (arith, nat_tests)
]
