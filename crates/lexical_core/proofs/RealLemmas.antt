-- REAL contents: their parts are the only ones, and which numbers they have.
use Rattle.std.proofs.Common.{◌≡◌, ℕ, zero, suc, ◌+◌, ◌*◌, ◌%◌, ◌^◌, ◌<◌, ◌≤◌, inl, inr, Bool, true, false, List, [], ◌∷◌, ◌++◌, take, drop, get_or, Option, Some, None, ℤ, pos, negsuc, refl, sym, ap, subst, ◌∙◌, arith, take-append-drop, lit≤}
use Rattle.std.proofs.lemmas.Bool.{cases_lt}
use Rattle.std.proofs.lemmas.Bool.Decides.{nat_tests}
use Rattle.std.proofs.lemmas.Fmt.{first_decimal, decimal_injective}
use Rattle.std.proofs.Math.Nat.{mul-le-mul_left}
use Rattle.std.specs.Option.{IfNone}
use Rattle.std.specs.Fmt.{decimal}
use Rattle.std.specs.Int.RustNames.{unsigned_abs}
use Rattle.std.specs.Str.Parse.{AllDigits, digits_value}
use Rattle.lexical_core.specs.Decimals.{Number, IsDecimal, IsNumber}
use Rattle.lexical_core.specs.Reals.{exponent_text, real_body, AreRealDigits, IsRealNumber, IsRealBody, IsReal}
use Rattle.lexical_core.specs.Exponents.{NoDigit, AreRealEnds, IsSmall, exponent_value}
use Rattle.lexical_core.specs.declared.real.Exponent.{Exponent}
use Rattle.lexical_core.specs.declared.real.Exponent.TheVariants.{Up, Down}
use Rattle.lexical_core.proofs.DecimalTexts.{digits_split}
use Rattle.lexical_core.proofs.Numerals.{value_ends, digit_range}
use Rattle.lexical_core.proofs.Scales.{least_same, no_decimal, pow_le, pow_positive}

pub positive_text : (n : ℕ) → 0 < n → exponent_text (pos n) ≡ decimal n
positive_text n some = grind (arith, nat_tests)

-- the parts of a body are where its digits end
pub body_split : (count : ℕ) (body digits : List ℕ) (e : ℤ) → AllDigits 10 (take count body) → NoDigit (drop count body) → AreRealDigits digits
    → body ≡ real_body digits e → (take count body ≡ digits) × (drop count body ≡ 46 ∷ 69 ∷ exponent_text e)
body_split count body digits e all none real is =
    digits_split (take count body) digits (drop count body) (46 ∷ 69 ∷ exponent_text e) all real.are_digits (take-append-drop count body ∙ is) none (lit≤ tt)

grows_by : (v k : ℕ) → 0 < v → 10 ^ k ≤ v * 10 ^ k
grows_by v k some = let one : 1 ≤ v = some in omega (arith, mul-le-mul_left (10 ^ k) one)

-- the size of a whole number is not below any part of it
whole_part : (a v e s : ℕ) → a * 10 ^ 0 ≡ (v * 10 ^ e) * 10 ^ s → v * 10 ^ e ≤ a
whole_part a v e s same = let p : 1 ≤ 10 ^ s = pow_positive s in omega (arith, mul-le-mul_left (v * 10 ^ e) p)

not_above : (e a : ℕ) → 10 ^ e ≤ a → a < 10 ^ 18 → e ≤ 18
not_above e a low high = elim (cases_lt 18 e) [
  | inl above ↦ absurd (let p = pow_le 18 e (omega arith) in omega arith)
  | inr below ↦ below
]

-- the exponents of decimals are small
pub exponent_small : (negative : Bool) (v : ℕ) (e : ℤ) (n : Number) → IsDecimal n → IsRealNumber negative v e n → 0 < v % 10 → unsigned_abs e ≤ 18
exponent_small negative v (pos e) n d number ends =
    let a = unsigned_abs n.whole in
    let part = whole_part a v e n.scale number.same_size in
    let grown = grows_by v e (omega arith) in
    not_above e a (omega arith) d.small
exponent_small negative v (negsuc e) n d number ends =
    let least = least_same (unsigned_abs n.whole) n.scale v (e + 1) number.same_size (λ some. ends) in
    let short = d.short in
    let below = least.0 in
    omega arith

-- no decimal has more digits
pub value_too_great_for : (negative : Bool) (v : ℕ) (e : ℤ) (n : Number) → IsDecimal n → IsRealNumber negative v e n → 0 < v % 10 → 10 ^ 18 ≤ v → ⊥
value_too_great_for negative v (pos e) n d number ends great =
    let a = unsigned_abs n.whole in
    let part = whole_part a v e n.scale number.same_size in
    let p : 1 ≤ 10 ^ e = pow_positive e in
    let grown = mul-le-mul_left v p in
    let small = d.small in
    omega arith
value_too_great_for negative v (negsuc e) n d number ends great =
    no_decimal negative v (e + 1) v (e + 1) refl (λ some. ends) (inl great) n d number

pub scaled_too_great : (negative : Bool) (v e : ℕ) → 10 ^ 18 ≤ v * 10 ^ e → (n : Number) → IsDecimal n → IsNumber negative (v * 10 ^ e) 0 n → ⊥
scaled_too_great negative v e great n d number =
    let part = whole_part (unsigned_abs n.whole) v e n.scale number.same_size in
    let small = d.small in
    omega arith

first_is_digit : (n : ℕ) → 0 < n → n < 2 ^ 64 → (c : ℕ) (rest : List ℕ) → decimal n ≡ c ∷ rest → 48 < c
first_is_digit n some fits c rest e = let first = first_decimal n some fits in let same = ap (λ t. get_or t 0 0) e in omega arith

-- an exponent with a minus sign
pub minus_exponent : (e : ℤ) (power : List ℕ) → unsigned_abs e ≤ 18 → 45 ∷ power ≡ exponent_text e → (k : ℕ) × (0 < k) × (k ≤ 18) × (power ≡ decimal k)
minus_exponent (pos zero) power small is = absurd (let same = ap (λ t. get_or t 0 0) is in omega arith)
minus_exponent (pos (suc n)) power small is =
    absurd (let first = first_is_digit (suc n) (omega arith) (omega arith) 45 power (sym (is ∙ positive_text (suc n) (omega arith))) in omega arith)
minus_exponent (negsuc n) power small is = (n + 1, omega arith, omega arith, cc)

-- exponents by their texts
pub exponent_same : (e f : ℤ) → unsigned_abs e ≤ 18 → unsigned_abs f ≤ 18 → exponent_text e ≡ exponent_text f → e ≡ f
exponent_same (pos zero) (pos zero) p q is = refl
exponent_same (pos zero) (pos (suc n)) p q is =
    absurd (let first = first_is_digit (suc n) (omega arith) (omega arith) 43 (48 ∷ []) (sym (is ∙ positive_text (suc n) (omega arith))) in omega arith)
exponent_same (pos (suc m)) (pos zero) p q is =
    absurd (let first = first_is_digit (suc m) (omega arith) (omega arith) 43 (48 ∷ []) (sym (positive_text (suc m) (omega arith)) ∙ is) in omega arith)
exponent_same (pos (suc m)) (pos (suc n)) p q is =
    ap pos (decimal_injective (suc m) (suc n) (omega arith) (omega arith) (sym (positive_text (suc m) (omega arith)) ∙ (is ∙ positive_text (suc n) (omega arith))))
exponent_same (pos zero) (negsuc n) p q is = absurd (let same = ap (λ t. get_or t 0 0) is in omega arith)
exponent_same (pos (suc m)) (negsuc n) p q is =
    absurd (let first = first_is_digit (suc m) (omega arith) (omega arith) 45 (decimal (n + 1)) (sym (positive_text (suc m) (omega arith)) ∙ is) in omega arith)
exponent_same (negsuc m) (pos zero) p q is = absurd (let same = ap (λ t. get_or t 0 0) is in omega arith)
exponent_same (negsuc m) (pos (suc n)) p q is =
    absurd (let first = first_is_digit (suc n) (omega arith) (omega arith) 45 (decimal (m + 1)) (sym (is ∙ positive_text (suc n) (omega arith))) in omega arith)
exponent_same (negsuc m) (negsuc n) p q is =
    let tails : decimal (m + 1) ≡ decimal (n + 1) = cc in
    let same = decimal_injective (m + 1) (n + 1) (omega arith) (omega arith) tails in
    ap negsuc (omega arith)

pub IfNone-map : {A : Type 0} (r : Option A) (P Q : Type 0) → (P → Q) → IfNone r P → IfNone r Q
IfNone-map None P Q f p = f p
IfNone-map (Some x) P Q f p = p

pub digits_begin : (ds : List ℕ) → AreRealDigits ds → (c : ℕ) (rest tail : List ℕ) → ds ++ tail ≡ c ∷ rest → 48 ≤ c
digits_begin [] real c rest tail e = absurd (let some = real.ends.0 in omega arith)
digits_begin (d ∷ ds) real c rest tail e = let range = digit_range d real.are_digits.0 in let same = ap (λ t. get_or t 0 0) e in omega arith

-- a minus is no part of a body
pub body_of_negative : (contents body : List ℕ) (n : Number) → contents ≡ 3 ∷ 45 ∷ body → IsReal contents n → IsRealBody true body n
body_of_negative contents body n e (inl h) = absurd (let same = sym e ∙ h.0 in cc)
body_of_negative contents body n e (inr (true, b, real, is)) = let same : b ≡ body = (let both = sym is ∙ e in cc) in subst (λ x. IsRealBody true x n) same real
body_of_negative contents body n e (inr (false, b, real, is)) =
    absurd (
    let both = sym is ∙ e in
    let tail : b ≡ 45 ∷ body = cc in
    let first = digits_begin real.0 real.2 45 body (46 ∷ 69 ∷ exponent_text real.1) (sym real.4 ∙ tail) in
    omega arith)

-- what a body that is split at the end of its digits says
pub real_value : (count : ℕ) (body : List ℕ) (negative : Bool) (n : Number) → AllDigits 10 (take count body) → NoDigit (drop count body) → IsRealBody negative body n
    → (e : ℤ) × IsRealNumber negative (digits_value 10 (take count body)) e n × (drop count body ≡ 46 ∷ 69 ∷ exponent_text e) × AreRealEnds (take count body)
    × (0 < digits_value 10 (take count body) % 10)
real_value count body negative n all none (ds, e, real, number, is) =
    let same = body_split count body ds e all none real is in (
      e,
      subst (λ x. IsRealNumber negative (digits_value 10 x) e n) (sym same.0) number,
      same.1,
      subst AreRealEnds (sym same.0) (real.starts, real.ends),
      subst (λ x. 0 < digits_value 10 x % 10) (sym same.0) (value_ends ds real.are_digits real.ends),
    )

pub small_value : (x : Exponent) → IsSmall x → unsigned_abs (exponent_value x) ≤ 18
small_value (Up n) small = small
small_value (Down n) small = let some = small.0 in let most = small.1 in omega arith

same_exponent : (tail : List ℕ) (e f : ℤ) → unsigned_abs e ≤ 18 → unsigned_abs f ≤ 18 → tail ≡ 46 ∷ 69 ∷ exponent_text e → tail ≡ 46 ∷ 69 ∷ exponent_text f → e ≡ f
same_exponent tail e f p q one two = exponent_same e f p q (let both = sym one ∙ two in cc)

-- the number by the value and the exponent that were read
pub read_number : (count : ℕ) (body : List ℕ) (negative : Bool) (n : Number) (value : ℕ) (x : Exponent) → AllDigits 10 (take count body) → NoDigit (drop count body)
    → value ≡ digits_value 10 (take count body) → drop count body ≡ 46 ∷ 69 ∷ exponent_text (exponent_value x) → IsSmall x → IsDecimal n → IsRealBody negative body n
    → IsRealNumber negative value (exponent_value x) n
read_number count body negative n value x all none value_is tail small d body_is =
    let real = real_value count body negative n all none body_is in
    let short = exponent_small negative (digits_value 10 (take count body)) real.0 n d real.1 real.4 in
    let same = same_exponent (drop count body) real.0 (exponent_value x) short (small_value x small) real.2 tail in
    subst (λ v. IsRealNumber negative v (exponent_value x) n) (sym value_is)
    (subst (λ e. IsRealNumber negative (digits_value 10 (take count body)) e n) same real.1)
