-- Decimals as they are written: how long their texts are, and that these are the canonical ones.
use Rattle.std.proofs.Common.{◌≡◌, ℕ, zero, suc, ◌+◌, ◌-◌, ◌*◌, ◌/◌, ◌%◌, ◌^◌, ◌<◌, ◌≤◌, cond, le-ltb, inl, inr, Bool, true, false, List, [], ◌∷◌, ◌++◌, length, get_or, Some, None, ℤ, pos, negsuc, refl, sym, ap, subst, ◌∙◌, arith, append_assoc, length-append, lit<}
use Rattle.std.proofs.lemmas.Bool.{cases_lt}
use Rattle.std.proofs.lemmas.Bool.Decides.{nat_tests}
use Rattle.std.proofs.lemmas.List.{append-nil, get_or_push}
use Rattle.std.proofs.lemmas.Int.Digits.{digits_value_push, digits_push}
use Rattle.std.proofs.lemmas.Fmt.{length-decimal-le, decimal_digit, first_decimal, decimal_is_IsNumeral}
use Rattle.std.proofs.Math.Nat.{div-lt_iff_lt-mul, div-mul-le_self, mul-le-mul_left}
use Rattle.std.specs.Char.{digit_value}
use Rattle.std.specs.Fmt.{decimal}
use Rattle.std.specs.Int.{is_negative}
use Rattle.std.specs.Int.RustNames.{unsigned_abs}
use Rattle.std.specs.Str.Parse.{AllDigits, digits_value}
use Rattle.lexical_core.specs.Decimals.{Number, IsDecimal, IsNumber, signed_number, fraction_digits, decimal_spelling, IsSign, EndsInNoZero, IsShortFraction, IsCanonicalText}
use Rattle.lexical_core.specs.CanonicalDecimals.{canonical_parts, fraction_of}
use Rattle.lexical_core.specs.FixedDigits.{fixed_digits}
use Rattle.lexical_core.specs.Reals.{minus_text, exponent_text, IsReal, IsRealNumber, AreRealDigits, real_body}
use Rattle.lexical_core.specs.Exponents.{exponent_for}
use Rattle.lexical_core.proofs.Numerals.{decimal_is_numeral, value_ends_back}
use Rattle.lexical_core.proofs.Scales.{pow_positive, pow_more, pow_split, pow_le}
use Rattle.lexical_core.proofs.Tests.{suc_not_zero}

-- the digits before the point, with those after it
pub whole_room : (size scale : ℕ) → size < 10 ^ 18 → scale ≤ 18 → length (decimal (size / 10 ^ scale)) + scale ≤ 19
whole_room size scale small short =
    let q = size / 10 ^ scale in
    let split = sym (ap (λ k. 10 ^ k) (let k : (18 - scale) + scale ≡ 18 = omega arith in k)) ∙ pow_split (18 - scale) scale in
    let below : q < 10 ^ (18 - scale) = (div-lt_iff_lt-mul {k = 10 ^ scale} {x = size} {y = 10 ^ (18 - scale)} (pow_positive scale)).1 (omega arith) in
    let most = pow_le (18 - scale) 18 (omega arith) in
    elim (cases_lt scale 18) [
      | inl inside ↦ let len = length-decimal-le (18 - scale) q (omega arith) below (omega arith) in omega arith
      | inr all ↦
          let none : 18 - scale ≡ 0 = omega arith in
          let power = ap (λ k. 10 ^ k) none in
          let zero : q ≡ 0 = omega arith in
          let one = ap (λ n. length (decimal n)) zero ∙ ap length (decimal_digit 0 (lit< tt)) in
          omega arith
    ]

pub digits_room : (n : ℕ) → n < 10 ^ 18 → length (decimal n) ≤ 18
digits_room n small = length-decimal-le 18 n (omega arith) small (omega arith)

pub two_digits : (n : ℕ) → n ≤ 18 → length (decimal n) ≤ 2
two_digits n small = length-decimal-le 2 n (omega arith) (omega arith) (omega arith)

-- a number with one digit less
pub without_zero : (size all zeros : ℕ) → all ≡ size * 10 ^ zeros → size % 10 ≡ 0 → all ≡ (size / 10) * 10 ^ (zeros + 1)
without_zero size all zeros e whole =
    let tenth : size ≡ 10 * (size / 10) = omega arith in
    let power = ap (λ n. (size / 10) * n) (pow_more zeros) in
    let same = ap (λ n. n * 10 ^ zeros) tenth in
    omega arith

pub few_zeros : (size all zeros : ℕ) → all ≡ size * 10 ^ zeros → 0 < size → all < 10 ^ 18 → zeros ≤ 18
few_zeros size all zeros e some small =
    elim (cases_lt 18 zeros) [
      | inl many ↦ absurd (
          let p = pow_le 18 zeros (omega arith) in
          let one : 1 ≤ size = some in
          let grown = mul-le-mul_left (10 ^ zeros) one in
          omega arith)
      | inr few ↦ few
    ]

pub part_small : (size all zeros : ℕ) → all ≡ size * 10 ^ zeros → all < 10 ^ 18 → size < 10 ^ 18
part_small size all zeros e small = let p : 1 ≤ 10 ^ zeros = pow_positive zeros in let grown = mul-le-mul_left size p in omega arith

-- digits of a fixed count
pub length-fixed_digits : (count n : ℕ) → length (fixed_digits count n) ≡ count
length-fixed_digits zero n = refl
length-fixed_digits (suc count) n =
    let rest = length-fixed_digits count (n / 10) in
    let sum = length-append (fixed_digits count (n / 10)) ((48 + n % 10) ∷ []) in
    omega arith

glyph_value : (d : ℕ) → d < 10 → digit_value (48 + d) ≡ d
glyph_value d h = grind (arith, nat_tests)

pub AllDigits-fixed_digits : (count n : ℕ) → AllDigits 10 (fixed_digits count n)
AllDigits-fixed_digits zero n = tt
AllDigits-fixed_digits (suc count) n =
    let value = glyph_value (n % 10) (omega arith) in
    digits_push 10 (fixed_digits count (n / 10)) (48 + n % 10) (AllDigits-fixed_digits count (n / 10)) (omega arith)

fixed_value_step : (front n p value : ℕ) → value ≡ front * p + n / 10 → value * 10 + n % 10 ≡ front * (10 * p) + n
fixed_value_step front n p value e = omega arith

-- what digits of a fixed count add behind others
pub value_with_fixed : (ds : List ℕ) (count n : ℕ) → n < 10 ^ count → digits_value 10 (ds ++ fixed_digits count n) ≡ digits_value 10 ds * 10 ^ count + n
value_with_fixed ds zero n small = ap (digits_value 10) (append-nil ds) ∙ (let none : n ≡ 0 = omega arith in omega arith)
value_with_fixed ds (suc count) n small =
    let power : 10 ^ suc count ≡ 10 * 10 ^ count = ap (λ k. 10 ^ k) (let k : suc count ≡ count + 1 = omega arith in k) ∙ pow_more count in
    let front = ds ++ fixed_digits count (n / 10) in
    let value = glyph_value (n % 10) (omega arith) in
    let push = digits_value_push 10 front (48 + n % 10) in
    let rest = value_with_fixed ds count (n / 10) (omega arith) in
    ap (digits_value 10) (sym (append_assoc ds (fixed_digits count (n / 10)) ((48 + n % 10) ∷ [])))
    ∙ (push ∙ (ap (λ d. digits_value 10 front * 10 + d) value
    ∙ (fixed_value_step (digits_value 10 ds) n (10 ^ count) (digits_value 10 front) rest ∙ ap (λ p. digits_value 10 ds * p + n) (sym power))))

fraction_some : (k rest : ℕ) → fraction_of (suc k) rest ≡ Some (fixed_digits (suc k) rest)
fraction_some k rest = ap (λ b. cond b None (Some (fixed_digits (suc k) rest))) (suc_not_zero k)

-- the digits after the point
fraction_is : (scale rest : ℕ) → fraction_digits (fraction_of scale rest) ≡ fixed_digits scale rest
fraction_is zero rest = refl
fraction_is (suc k) rest = ap fraction_digits (fraction_some k rest)

last_fixed : (count n : ℕ) → get_or (fixed_digits (suc count) n) count 0 ≡ 48 + n % 10
last_fixed count n = get_or_push (fixed_digits count (n / 10)) (48 + n % 10) 0 count (length-fixed_digits count (n / 10))

short_fraction : (scale rest : ℕ) → (0 < scale → 0 < rest % 10) → IsShortFraction (fraction_of scale rest)
short_fraction zero rest ends = tt
short_fraction (suc k) rest ends =
    let len = length-fixed_digits (suc k) rest in
    let at : length (fixed_digits (suc k) rest) - 1 ≡ k = omega arith in
    let last = ap (λ i. get_or (fixed_digits (suc k) rest) i 0) at ∙ last_fixed k rest in
    let some = ends (omega arith) in
    let ends_so : EndsInNoZero (fixed_digits (suc k) rest) = (omega arith, λ e. absurd (omega arith)) in
    subst IsShortFraction (sym (fraction_some k rest)) ends_so

sign_of : (b : Bool) → IsSign b (minus_text b)
sign_of true = refl
sign_of false = inl refl

no_plus : (b : Bool) → minus_text b ≡ 43 ∷ [] → ⊥
no_plus true e = let same = ap (λ t. get_or t 0 0) e in omega arith
no_plus false e = cc

signed_is : (z : ℤ) → z ≡ signed_number (is_negative z) (unsigned_abs z)
signed_is (pos n) = ap (λ b. signed_number b n) (sym (le-ltb n 0 (omega arith)))
signed_is (negsuc n) = refl

pub number_itself : (n : Number) → IsNumber (is_negative n.whole) (unsigned_abs n.whole) n.scale n
number_itself n = record { same_size = refl; same_sign = signed_is n.whole }

one_zero : (q : ℕ) → q < 2 ^ 64 → get_or (decimal q) 0 0 ≡ 48 → length (decimal q) ≡ 1
one_zero q fits e = elim (cases_lt 0 q) [
  | inl some ↦ absurd (let first = first_decimal q some fits in omega arith)
  | inr none ↦ let zero : q ≡ 0 = omega arith in ap (λ n. length (decimal n)) zero ∙ ap length (decimal_digit 0 (lit< tt))
]

last_of_rest : (size scale : ℕ) → 0 < scale → (size % 10 ^ scale) % 10 ≡ size % 10
last_of_rest size scale some =
    let p = pow_positive scale in
    let less : (scale - 1) + 1 ≡ scale = omega arith in
    let power = ap (λ n. (size / 10 ^ scale) * n) (sym (ap (λ n. 10 ^ n) less) ∙ pow_more (scale - 1)) in
    let whole : size ≡ (size / 10 ^ scale) * 10 ^ scale + size % 10 ^ scale = omega arith in
    omega arith

value_of_parts : (size scale : ℕ) → size < 10 ^ 18
    → digits_value 10 (decimal (size / 10 ^ scale) ++ fraction_digits (fraction_of scale (size % 10 ^ scale))) ≡ size
value_of_parts size scale small =
    let q = size / 10 ^ scale in
    let p = pow_positive scale in
    let one : 1 ≤ 10 ^ scale = p in
    let below = mul-le-mul_left q one in
    let part = div-mul-le_self size (10 ^ scale) in
    let fits : q ≤ size = omega arith in
    let is = decimal_is_IsNumeral q (omega arith) in
    let value = value_with_fixed (decimal q) scale (size % 10 ^ scale) (omega arith) in
    let whole : size ≡ q * 10 ^ scale + size % 10 ^ scale = omega arith in
    let front = ap (λ v. v * 10 ^ scale) is.1 in
    ap (λ t. digits_value 10 (decimal q ++ t)) (fraction_is scale (size % 10 ^ scale)) ∙ omega arith

-- the parts that are written are the canonical ones
pub canonical_is : (n : Number) → IsDecimal n → IsCanonicalText (decimal_spelling (canonical_parts n)) n
canonical_is n d =
    let size = unsigned_abs n.whole in
    let q = size / 10 ^ n.scale in
    let rest = size % 10 ^ n.scale in
    let p = pow_positive n.scale in
    let one : 1 ≤ 10 ^ n.scale = p in
    let below = mul-le-mul_left q one in
    let part = div-mul-le_self size (10 ^ n.scale) in
    let small = d.small in
    let fits : q < 2 ^ 64 = omega arith in
    let is = decimal_is_IsNumeral q fits in
    let fraction = fraction_is n.scale rest in
    let count = ap length fraction ∙ length-fixed_digits n.scale rest in
    let number = subst (λ v. IsNumber (is_negative n.whole) v n.scale n) (sym (value_of_parts size n.scale small)) (number_itself n) in (
      is_negative n.whole,
      canonical_parts n,
      record {
        parts = record {
          sign = sign_of (is_negative n.whole);
          whole = is.0.1;
          fraction = subst (AllDigits 10) (sym fraction) (AllDigits-fixed_digits n.scale rest);
          some = let some = is.0.0 in omega arith;
        };
        number = subst (λ c. IsNumber (is_negative n.whole) (digits_value 10 (decimal q ++ fraction_digits (fraction_of n.scale rest))) c n) (sym count) number;
      },
      record {
        no_plus = no_plus (is_negative n.whole);
        no_minus_zero = λ e. ap (λ z. minus_text (is_negative z)) e;
        some_whole = is.0.0;
        no_leading_zero = one_zero q fits;
        short_fraction = short_fraction n.scale rest (λ deep. let last = last_of_rest size n.scale deep in let ends = d.least deep in omega arith);
      },
      refl,
    )

-- contents put together part by part
pub joined : {t t1 t2 t3 t4 t5 : List ℕ} (minus digits exponent : List ℕ) → t ≡ t5 ++ exponent → t5 ≡ t4 ++ 69 ∷ [] → t4 ≡ t3 ++ 46 ∷ [] → t3 ≡ t2 ++ digits
    → t2 ≡ t1 ++ minus → t1 ≡ 3 ∷ [] → t ≡ 3 ∷ (minus ++ (digits ++ (46 ∷ 69 ∷ exponent)))
joined minus digits exponent e5 e4 e3 e2 e1 e0 =
    e5 ∙ (ap (λ x. x ++ exponent) (e4 ∙ ap (λ x. x ++ 69 ∷ []) (e3 ∙ ap (λ x. x ++ 46 ∷ []) (e2 ∙ ap (λ x. x ++ digits) (e1 ∙ ap (λ x. x ++ minus) e0)))) ∙ simp append_assoc)

exponent_down : (scale zeros : ℕ) → 0 < scale → exponent_for scale zeros ≡ negsuc (scale - 1)
exponent_down scale ending some = grind (arith, nat_tests)

real_digits : (digits : ℕ) → 0 < digits % 10 → digits < 10 ^ 18 → AreRealDigits (decimal digits) × (digits_value 10 (decimal digits) ≡ digits)
real_digits digits ends small =
    let is = decimal_is_numeral digits (omega arith) (omega arith) in
    let value = is.1 in
    (record { are_digits = is.0.are_digits; starts = is.0.starts; ends = value_ends_back (decimal digits) is.0.are_digits is.0.some (omega arith) }, is.1)

-- where there are digits after the point, the whole part ends in no 0
no_zeros : (size digits zeros : ℕ) → size ≡ digits * 10 ^ zeros → 0 < size % 10 → size ≡ digits
no_zeros size digits zeros e ends =
    elim (cases_lt 0 zeros) [
      | inl some ↦ absurd (
          let less : (zeros - 1) + 1 ≡ zeros = omega arith in
          let power = ap (λ n. digits * n) (sym (ap (λ n. 10 ^ n) less) ∙ pow_more (zeros - 1)) in
          omega arith)
      | inr none ↦ let zero : zeros ≡ 0 = omega arith in let power = ap (λ n. digits * 10 ^ n) zero in omega arith
    ]

real_number : (n : Number) (digits zeros : ℕ) → IsDecimal n → unsigned_abs n.whole ≡ digits * 10 ^ zeros → IsRealNumber (is_negative n.whole) digits (exponent_for n.scale zeros) n
real_number n digits zeros d e =
    elim (cases_lt 0 n.scale) [
      | inl deep ↦
          let same = no_zeros (unsigned_abs n.whole) digits zeros e (d.least deep) in
          let scale : n.scale ≡ n.scale - 1 + 1 = omega arith in
          let one = subst (λ v. IsNumber (is_negative n.whole) v n.scale n) same (number_itself n) in
          let two = subst (λ s. IsNumber (is_negative n.whole) digits s n) scale one in
          subst (λ x. IsRealNumber (is_negative n.whole) digits x n) (sym (exponent_down n.scale zeros deep)) two
      | inr flat ↦
          let none : n.scale ≡ 0 = omega arith in
          let one = subst (λ v. IsNumber (is_negative n.whole) v n.scale n) e (number_itself n) in
          let two = subst (λ s. IsNumber (is_negative n.whole) (digits * 10 ^ zeros) s n) none one in
          subst (λ s. IsRealNumber (is_negative n.whole) digits (exponent_for s zeros) n) (sym none) two
    ]

-- the contents that are written are those of the number
pub contents_are : (n : Number) (digits zeros : ℕ) (contents : List ℕ) → IsDecimal n → unsigned_abs n.whole ≡ digits * 10 ^ zeros → 0 < digits % 10
    → contents ≡ 3 ∷ (minus_text (is_negative n.whole) ++ (decimal digits ++ (46 ∷ 69 ∷ exponent_text (exponent_for n.scale zeros)))) → IsReal contents n
contents_are n digits zeros contents d e ends text =
    let small = part_small digits (unsigned_abs n.whole) zeros e d.small in
    let real = real_digits digits ends small in
    inr (
      is_negative n.whole,
      real_body (decimal digits) (exponent_for n.scale zeros),
      (
        decimal digits,
        exponent_for n.scale zeros,
        real.0,
        subst (λ v. IsRealNumber (is_negative n.whole) v (exponent_for n.scale zeros) n) (sym real.1) (real_number n digits zeros d e),
        refl,
      ),
      text,
    )
