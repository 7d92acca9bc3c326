-- What the digits read so far make, digit by digit.
use Rattle.std.proofs.Common.{◌≡◌, ℕ, ◌+◌, ◌*◌, ◌%◌, ◌^◌, ◌<◌, ◌≤◌, ◌⊎◌, inl, inr, min, refl, sym, ap, ◌∙◌, arith, Bool, true, false}
use Rattle.std.proofs.Math.Nat.{mul-le-mul_left}
use Rattle.std.proofs.lemmas.Bool.{cases_Bool}
use Rattle.lexical_core.specs.Decimals.{Number, IsNumber, HasNoDecimal}
use Rattle.lexical_core.specs.DecimalSoFar.{AreDigitsOf}
use Rattle.lexical_core.specs.declared.digits.Digits.{Digits}
use Rattle.lexical_core.proofs.Scales.{pow_positive, pow_more, pow_split, no_decimal, IsNumber-same}

pub whole_fits : (d e : Digits) (digit value : ℕ) → AreDigitsOf d value 0 → e.zeros ≡ d.zeros → e.long ≡ d.long → e.scale ≡ d.scale
    → e.size ≡ d.size * 10 ^ 1 + digit → AreDigitsOf e (value * 10 + digit) 0
whole_fits d e digit value h zeros long scale size =
    let value_is = h.value_is in let count_is = h.count_is in let kept = h.zeros_kept in
    let no_zeros : h.zeros ≡ 0 = omega arith in
    let power = ap (λ n. 10 ^ n) no_zeros in
    let plain : value ≡ h.size = value_is ∙ (ap (λ n. h.size * n) power ∙ omega arith) in
    record {
      size = h.size * 10 + digit;
      scale = 0;
      zeros = 0;
      value_is = omega arith;
      count_is = refl;
      least = λ some. absurd (omega arith);
      zeros_kept = omega arith;
      kept = λ short. let old = h.kept (sym long ∙ short) in let same = old.0 in let none = old.1 in (omega arith, omega arith);
      too_long = λ full. elim (h.too_long (sym long ∙ full)) [ inl great ↦ inl (omega arith) | inr deep ↦ absurd (omega arith) ];
    }

pub whole_long : (d e : Digits) (digit value : ℕ) → AreDigitsOf d value 0 → e.zeros ≡ d.zeros → e.long ≡ true
    → 10 ^ 18 ≤ d.size * 10 ^ 1 + digit → AreDigitsOf e (value * 10 + digit) 0
whole_long d e digit value h zeros long great =
    let value_is = h.value_is in let count_is = h.count_is in let kept = h.zeros_kept in
    let no_zeros : h.zeros ≡ 0 = omega arith in
    let power = ap (λ n. 10 ^ n) no_zeros in
    let plain : value ≡ h.size = value_is ∙ (ap (λ n. h.size * n) power ∙ omega arith) in
    let size_great : 10 ^ 18 ≤ h.size * 10 + digit = elim (cases_Bool d.long) [
      | inl full ↦ elim (h.too_long full) [ inl big ↦ omega arith | inr deep ↦ absurd (omega arith) ]
      | inr short ↦ let same = (h.kept short).0 in omega arith
    ] in
    record {
      size = h.size * 10 + digit;
      scale = 0;
      zeros = 0;
      value_is = omega arith;
      count_is = refl;
      least = λ some. absurd (omega arith);
      zeros_kept = omega arith;
      kept = λ short. absurd (cc);
      too_long = λ full. inl size_great;
    }

pub zero_after : (d e : Digits) (digit value count : ℕ) → digit ≡ 0 → AreDigitsOf d value count → e.zeros ≡ min (d.zeros + 1) 19 → e.long ≡ d.long → e.scale ≡ d.scale
    → e.size ≡ d.size → AreDigitsOf e (value * 10 + digit) (count + 1)
zero_after d e digit value count none h zeros long scale size =
    let value_is = h.value_is in let count_is = h.count_is in let kept = h.zeros_kept in
    let power = ap (λ n. h.size * n) (pow_more h.zeros) in
    record {
      size = h.size;
      scale = h.scale;
      zeros = h.zeros + 1;
      value_is = omega arith;
      count_is = omega arith;
      least = h.least;
      zeros_kept = omega arith;
      kept = λ short. let old = h.kept (sym long ∙ short) in (size ∙ old.0, scale ∙ old.1);
      too_long = λ full. h.too_long (sym long ∙ full);
    }

-- the number with zeros and a digit behind it, by the power of all of them
grown_value : (value size zeros digit : ℕ) → value ≡ size * 10 ^ zeros → value * 10 + digit ≡ (size * 10 ^ (zeros + 1) + digit) * 10 ^ 0
grown_value value size zeros digit e = let power = ap (λ n. size * n) (pow_more zeros) in omega arith

ends_in : (size zeros digit : ℕ) → digit < 10 → (size * 10 ^ (zeros + 1) + digit) % 10 ≡ digit
ends_in size zeros digit h = let power = ap (λ n. size * n) (pow_more zeros) in omega arith

not_less : (size k digit : ℕ) → size ≤ size * 10 ^ k + digit
not_less size k digit = let p : 1 ≤ 10 ^ k = pow_positive k in omega (arith, mul-le-mul_left size p)

pub last_fits : (d e : Digits) (digit value count : ℕ) → 0 < digit → digit < 10 → AreDigitsOf d value count → d.scale + d.zeros < 18 → e.zeros ≡ 0
    → e.long ≡ d.long → e.scale ≡ d.scale + (d.zeros + 1) → e.size ≡ d.size * 10 ^ (d.zeros + 1) + digit → AreDigitsOf e (value * 10 + digit) (count + 1)
last_fits d e digit value count some below h room zeros long scale size =
    let count_is = h.count_is in let kept = h.zeros_kept in
    let same_zeros : d.zeros ≡ h.zeros = omega arith in
    let last = ends_in h.size h.zeros digit below in
    let grows = not_less h.size (h.zeros + 1) digit in
    record {
      size = h.size * 10 ^ (h.zeros + 1) + digit;
      scale = h.scale + (h.zeros + 1);
      zeros = 0;
      value_is = grown_value value h.size h.zeros digit h.value_is;
      count_is = omega arith;
      least = λ deep. omega arith;
      zeros_kept = zeros;
      kept = λ short. let old = h.kept (sym long ∙ short) in (
        size ∙ (ap (λ n. n * 10 ^ (d.zeros + 1) + digit) old.0 ∙ ap (λ n. h.size * 10 ^ (n + 1) + digit) same_zeros),
        scale ∙ (ap (λ n. n + (d.zeros + 1)) old.1 ∙ ap (λ n. h.scale + (n + 1)) same_zeros),
      );
      too_long = λ full. elim (h.too_long (sym long ∙ full)) [ inl great ↦ inl (omega arith) | inr deep ↦ inr (omega arith) ];
    }

-- why the number is too long
abbrev pub IsTooLong : Digits → ℕ → Type 0
IsTooLong d digit = (18 ≤ d.scale + d.zeros) ⊎ ((d.scale + d.zeros < 18) × (10 ^ 18 ≤ d.size * 10 ^ (d.zeros + 1) + digit))

still_long : (d : Digits) (digit value count : ℕ) → AreDigitsOf d value count → IsTooLong d digit → (h : AreDigitsOf d value count)
    → (10 ^ 18 ≤ h.size * 10 ^ (h.zeros + 1) + digit) ⊎ (18 < h.scale + (h.zeros + 1))
still_long d digit value count h' why h =
    let kept = h.zeros_kept in
    let grows = not_less h.size (h.zeros + 1) digit in
    elim (cases_Bool d.long) [
      | inl full ↦ elim (h.too_long full) [ inl great ↦ inl (omega arith) | inr deep ↦ inr (omega arith) ]
      | inr short ↦ let old = h.kept short in let size = old.0 in let scale = old.1 in
          elim why [
            | inl deep ↦ inr (omega arith)
            | inr great ↦ let room = great.0 in let same_zeros : d.zeros ≡ h.zeros = omega arith in
                let same : d.size * 10 ^ (d.zeros + 1) + digit ≡ h.size * 10 ^ (h.zeros + 1) + digit =
                ap (λ n. n * 10 ^ (d.zeros + 1) + digit) size ∙ ap (λ n. h.size * 10 ^ (n + 1) + digit) same_zeros in
                let big = great.1 in inl (omega arith)
          ]
    ]

pub last_long : (d e : Digits) (digit value count : ℕ) → 0 < digit → digit < 10 → AreDigitsOf d value count → IsTooLong d digit → e.zeros ≡ 0
    → e.long ≡ true → AreDigitsOf e (value * 10 + digit) (count + 1)
last_long d e digit value count some below h why zeros long =
    let count_is = h.count_is in
    let last = ends_in h.size h.zeros digit below in
    record {
      size = h.size * 10 ^ (h.zeros + 1) + digit;
      scale = h.scale + (h.zeros + 1);
      zeros = 0;
      value_is = grown_value value h.size h.zeros digit h.value_is;
      count_is = omega arith;
      least = λ deep. omega arith;
      zeros_kept = zeros;
      kept = λ short. absurd (cc);
      too_long = λ full. still_long d digit value count h why h;
    }

-- the number of all digits
pub number_is : (d : Digits) (negative : Bool) (value count : ℕ) (n : Number) → AreDigitsOf d value count → d.long ≡ false → IsNumber negative d.size d.scale n
    → IsNumber negative value count n
number_is d negative value count n h short number =
    let old = h.kept short in
    let power = pow_split h.scale h.zeros in
    let scale_power = ap (λ k. h.size * 10 ^ k) h.count_is ∙ ap (λ k. h.size * k) power in
    let value_power = ap (λ v. v * 10 ^ h.scale) h.value_is in
    IsNumber-same negative d.size d.scale value count n
    (ap (λ s. s * 10 ^ count) old.0 ∙ (omega (arith, scale_power, value_power) ∙ ap (λ s. value * 10 ^ s) (sym old.1))) number

pub too_long_number : (d : Digits) (value count : ℕ) → AreDigitsOf d value count → d.long ≡ true → (sign : Bool) → HasNoDecimal sign value count
too_long_number d value count h full sign =
    let power = pow_split h.scale h.zeros in
    let scale_power = ap (λ k. h.size * 10 ^ k) h.count_is ∙ ap (λ k. h.size * k) power in
    let value_power = ap (λ v. v * 10 ^ h.scale) h.value_is in
    no_decimal sign value count h.size h.scale (omega (arith, scale_power, value_power)) h.least (h.too_long full)
