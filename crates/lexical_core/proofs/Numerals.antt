-- Digits and their value.
use Rattle.std.proofs.Common.{◌≡◌, ◌≢◌, ℕ, zero, suc, ◌+◌, ◌-◌, ◌*◌, ◌%◌, ◌^◌, ◌<◌, ◌≤◌, inl, inr, List, [], ◌∷◌, length, take, drop, get_or, refl, sym, ap, subst, ◌∙◌, arith, take_all, drop-cons, lit<}
use Rattle.std.proofs.lemmas.Bool.{cases_lt}
use Rattle.std.proofs.lemmas.Bool.Decides.{nat_tests}
use Rattle.std.proofs.lemmas.Int.Digits.{digits_value_more}
use Rattle.std.proofs.lemmas.Str.Parse.{IsNumeralModel, digits_value-take-le}
use Rattle.std.proofs.lemmas.Str.{digit_value_digit}
use Rattle.std.proofs.lemmas.Fmt.{decimal_is_IsNumeral, decimal-digits_value, first_decimal, decimal_digit}
use Rattle.std.specs.Char.{digit_value}
use Rattle.std.specs.Fmt.{decimal}
use Rattle.std.specs.Str.Parse.{AllDigits, digits_value}
use Rattle.lexical_core.specs.Decimals.{EndsInNoZero}
use Rattle.lexical_core.specs.Exponents.{NoDigit, IsPositiveNumeral}

pub own : IsNumeralModel (AllDigits 10) (digits_value 10)
own = record { to = λ ds h. h; from = λ ds h. h; same = λ ds h. refl }

pub AllDigits-at : (ds : List ℕ) (i : ℕ) → AllDigits 10 ds → i < length ds → digit_value (get_or ds i 0) < 10
AllDigits-at [] i all h = absurd (omega arith)
AllDigits-at (d ∷ ds) zero all h = all.0
AllDigits-at (d ∷ ds) (suc i) all h = AllDigits-at ds i all.1 (omega arith)

-- a digit is between '0' and '9'
pub digit_range : (c : ℕ) → digit_value c < 10 → (48 ≤ c) × (c ≤ 57)
digit_range c h =
    elim (cases_lt c 48) [
      | inl low ↦ absurd (grind (arith, nat_tests))
      | inr up ↦ elim (cases_lt c 58) [ inl high ↦ (up, omega arith) | inr above ↦ absurd (grind (arith, nat_tests)) ]
    ]

pub digit_value_is : (c : ℕ) → digit_value c < 10 → digit_value c ≡ c - 48
digit_value_is c h = let r = digit_range c h in let v = digit_value_digit c r in omega arith

-- one more digit of the value
pub value_more : (ds : List ℕ) (i value longer : ℕ) → AllDigits 10 ds → i < length ds → value ≡ digits_value 10 (take i ds)
    → longer ≡ value * 10 ^ 1 + (get_or ds i 0 - 48) → longer ≡ digits_value 10 (take (i + 1) ds)
value_more ds i value longer all h e f =
    let more = digits_value_more 10 ds i h in
    let digit = digit_value_is (get_or ds i 0) (AllDigits-at ds i all h) in
    omega arith

pub value_too_great : (ds : List ℕ) (i value : ℕ) → AllDigits 10 ds → i < length ds → value ≡ digits_value 10 (take i ds)
    → 10 ^ 18 ≤ value * 10 ^ 1 + (get_or ds i 0 - 48) → 10 ^ 18 ≤ digits_value 10 ds
value_too_great ds i value all h e f =
    let more = digits_value_more 10 ds i h in
    let digit = digit_value_is (get_or ds i 0) (AllDigits-at ds i all h) in
    let part = digits_value-take-le 10 ds (i + 1) (omega arith) in
    omega arith

no_digit_inside : (ds : List ℕ) (i : ℕ) → AllDigits 10 ds → i < length ds → NoDigit (drop i ds) → ⊥
no_digit_inside ds i all h none =
    let here : NoDigit (get_or ds i 0 ∷ drop (suc i) ds) = subst NoDigit (drop-cons ds i 0 h) none in
    let digit = AllDigits-at ds i all h in
    omega arith

-- digits to the end
pub numeral_from_count : (ds : List ℕ) (count first : ℕ) → count ≡ length ds → AllDigits 10 (take count ds) → 0 < length ds → get_or ds 0 0 ≢ 48 → IsPositiveNumeral ds
numeral_from_count ds count first e all some starts =
    record { are_digits = subst (AllDigits 10) (take_all count ds (omega arith)) all; some = some; starts = starts }

pub count_of_numeral : (ds : List ℕ) (count : ℕ) → count ≤ length ds → NoDigit (drop count ds) → IsPositiveNumeral ds → count ≡ length ds
count_of_numeral ds count bound none n =
    elim (cases_lt count (length ds)) [ inl below ↦ absurd (no_digit_inside ds count n.are_digits below none) | inr above ↦ omega arith ]

-- the digits of a number are a numeral, and of this value
pub decimal_is_numeral : (n : ℕ) → 0 < n → n < 2 ^ 64 → IsPositiveNumeral (decimal n) × (digits_value 10 (decimal n) ≡ n)
decimal_is_numeral n some fits =
    let is = decimal_is_IsNumeral n fits in
    let first = first_decimal n some fits in
    (record { are_digits = is.0.1; some = is.0.0; starts = λ e. omega arith }, is.1)

-- a numeral is what is written of its value
pub numeral_is_decimal : (ds : List ℕ) → IsPositiveNumeral ds → digits_value 10 ds < 2 ^ 64 → ds ≡ decimal (digits_value 10 ds)
numeral_is_decimal ds n fits = sym (decimal-digits_value own ds n.are_digits n.some (λ e. absurd (n.starts e)) fits)

-- the value of the whole is that of the front and the last digit
last_digit : (ds : List ℕ) → 0 < length ds → digits_value 10 ds ≡ digits_value 10 (take (length ds - 1) ds) * 10 + digit_value (get_or ds (length ds - 1) 0)
last_digit ds some =
    let whole : take (length ds - 1 + 1) ds ≡ ds = take_all (length ds - 1 + 1) ds (omega arith) in
    sym (ap (digits_value 10) whole) ∙ digits_value_more 10 ds (length ds - 1) (omega arith)

-- digits that do not end in 0 have a value that does not
pub value_ends : (ds : List ℕ) → AllDigits 10 ds → EndsInNoZero ds → 0 < digits_value 10 ds % 10
value_ends ds all ends =
    let last = last_digit ds ends.0 in
    let low = AllDigits-at ds (length ds - 1) all (let some = ends.0 in omega arith) in
    let digit = digit_value_is (get_or ds (length ds - 1) 0) low in
    let range = digit_range (get_or ds (length ds - 1) 0) low in
    let not_zero = ends.1 in
    grind arith

-- and the other way round
pub value_ends_back : (ds : List ℕ) → AllDigits 10 ds → 0 < length ds → 0 < digits_value 10 ds % 10 → EndsInNoZero ds
value_ends_back ds all some last_some =
    let last = last_digit ds some in
    let low = AllDigits-at ds (length ds - 1) all (omega arith) in
    let digit = digit_value_is (get_or ds (length ds - 1) 0) low in
    (some, λ e. absurd (omega arith))

-- a numeral that does not begin with 0 is not 0
pub numeral_some : (ds : List ℕ) (value : ℕ) → IsPositiveNumeral ds → value ≡ digits_value 10 ds → 0 < value
numeral_some ds value n e =
    elim (cases_lt 0 value) [
      | inl some ↦ some
      | inr none ↦ absurd (
          let zero : digits_value 10 ds ≡ 0 = omega arith in
          let written = numeral_is_decimal ds n (omega arith) ∙ (ap decimal zero ∙ decimal_digit 0 (lit< tt)) in
          n.starts (ap (λ t. get_or t 0 0) written))
    ]
