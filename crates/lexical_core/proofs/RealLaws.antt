-- REAL contents have one number, and a number has one contents.
use Rattle.std.proofs.Common.{◌≡◌, ℕ, zero, suc, ◌+◌, ◌-◌, ◌*◌, ◌/◌, ◌%◌, ◌^◌, ◌<◌, ◌≤◌, inl, inr, Bool, true, false, List, [], ◌∷◌, ◌++◌, length, length-append, ℤ, pos, negsuc, refl, sym, ap, subst, ◌∙◌, arith, lit≤}
use Rattle.std.proofs.lemmas.Bool.{cases_lt}
use Rattle.std.proofs.lemmas.Fmt.{length-decimal-le}
use Rattle.std.proofs.Math.Nat.{mul-le-mul_left}
use Rattle.std.specs.Fmt.{decimal}
use Rattle.std.specs.Int.RustNames.{unsigned_abs}
use Rattle.std.specs.Str.Parse.{digits_value}
use Rattle.lexical_core.specs.Decimals.{Number, IsDecimal, signed_number}
use Rattle.lexical_core.specs.Reals.{minus_text, exponent_text, real_body, AreRealDigits, IsRealNumber, IsRealBody, IsReal}
use Rattle.lexical_core.specs.Exponents.{IsPositiveNumeral}
use Rattle.lexical_core.proofs.DecimalTexts.{digits_split}
use Rattle.lexical_core.proofs.DecimalLaws.{same_least, number_same, one_number}
use Rattle.lexical_core.proofs.Numerals.{value_ends, numeral_is_decimal}
use Rattle.lexical_core.proofs.RealLemmas.{exponent_small, exponent_same, digits_begin, positive_text}
use Rattle.lexical_core.proofs.Scales.{pow_positive, pow_more}
use Rattle.lexical_core.proofs.Written.{contents_are}

-- a number that is no zero has one sign
one_sign : (b b' : Bool) (z : ℤ) → z ≡ signed_number b (unsigned_abs z) → z ≡ signed_number b' (unsigned_abs z) → 0 < unsigned_abs z → b ≡ b'
one_sign b b' (pos zero) p q some = absurd (omega arith)
one_sign false false (pos (suc k)) p q some = refl
one_sign true b' (pos (suc k)) p q some = absurd (cc)
one_sign false true (pos (suc k)) p q some = absurd (cc)
one_sign true true (negsuc k) p q some = refl
one_sign false b' (negsuc k) p q some = absurd (cc)
one_sign true false (negsuc k) p q some = absurd (cc)

-- a whole number has no digits after the point
no_scale : (a v s : ℕ) → a * 10 ^ 0 ≡ v * 10 ^ s → (0 < s → 0 < a % 10) → (s ≡ 0) × (a ≡ v)
no_scale a v s e least =
    elim (cases_lt 0 s) [
      | inl some ↦ absurd (
          let less : (s - 1) + 1 ≡ s = omega arith in
          let power = ap (λ x. v * x) (sym (ap (λ k. 10 ^ k) less) ∙ pow_more (s - 1)) in
          let ends = least some in
          omega arith)
      | inr none ↦ let zero : s ≡ 0 = omega arith in let power = ap (λ k. v * 10 ^ k) zero in (zero, omega arith)
    ]

-- the value and the exponent of a number
same_parts : (b b' : Bool) (v v' : ℕ) (e e' : ℤ) (n : Number) → IsDecimal n → IsRealNumber b v e n → IsRealNumber b' v' e' n → 0 < v % 10 → 0 < v' % 10
    → (v ≡ v') × (e ≡ e')
same_parts b b' v v' (pos e) (pos e') n d p q ends ends' =
    let one = no_scale (unsigned_abs n.whole) (v * 10 ^ e) n.scale p.same_size d.least in
    let two = no_scale (unsigned_abs n.whole) (v' * 10 ^ e') n.scale q.same_size d.least in
    let same = same_least v e' v' e (sym one.1 ∙ two.1) (λ some. ends) (λ some. ends') in
    (same.0, ap pos (sym same.1))
same_parts b b' v v' (pos e) (negsuc e') n d p q ends ends' =
    absurd (
    let one = no_scale (unsigned_abs n.whole) (v * 10 ^ e) n.scale p.same_size d.least in
    let two = same_least (unsigned_abs n.whole) n.scale v' (e' + 1) q.same_size d.least (λ some. ends') in
    let zero = one.0 in let more = two.1 in
    omega arith)
same_parts b b' v v' (negsuc e) (pos e') n d p q ends ends' =
    absurd (
    let one = no_scale (unsigned_abs n.whole) (v' * 10 ^ e') n.scale q.same_size d.least in
    let two = same_least (unsigned_abs n.whole) n.scale v (e + 1) p.same_size d.least (λ some. ends) in
    let zero = one.0 in let more = two.1 in
    omega arith)
same_parts b b' v v' (negsuc e) (negsuc e') n d p q ends ends' =
    let one = same_least (unsigned_abs n.whole) n.scale v (e + 1) p.same_size d.least (λ some. ends) in
    let two = same_least (unsigned_abs n.whole) n.scale v' (e' + 1) q.same_size d.least (λ some. ends') in
    let more = one.1 in let more' = two.1 in
    let same : e ≡ e' = omega arith in
    (sym one.0 ∙ two.0, ap negsuc same)

-- the size of a number with a value is not 0, and not below the value
value_below : (b : Bool) (v : ℕ) (e : ℤ) (n : Number) → IsDecimal n → IsRealNumber b v e n → 0 < v % 10 → v ≤ unsigned_abs n.whole
value_below b v (pos e) n d p ends =
    let one = no_scale (unsigned_abs n.whole) (v * 10 ^ e) n.scale p.same_size d.least in
    let same = one.1 in
    let some : 1 ≤ 10 ^ e = pow_positive e in
    let grown = mul-le-mul_left v some in
    omega arith
value_below b v (negsuc e) n d p ends =
    let one = same_least (unsigned_abs n.whole) n.scale v (e + 1) p.same_size d.least (λ some. ends) in
    let same = one.0 in
    omega arith

sign_of_real : (b : Bool) (v : ℕ) (e : ℤ) (n : Number) → IsRealNumber b v e n → n.whole ≡ signed_number b (unsigned_abs n.whole)
sign_of_real b v (pos e) n p = p.same_sign
sign_of_real b v (negsuc e) n p = p.same_sign

numeral_of : (ds : List ℕ) → AreRealDigits ds → IsPositiveNumeral ds
numeral_of ds real = record { are_digits = real.are_digits; some = real.ends.0; starts = real.starts }

not_zero : (z : ℤ) → z ≡ pos 0 → 0 < unsigned_abs z → ⊥
not_zero z e some = let same = ap unsigned_abs e in omega arith

pub number_contents : (a b : List ℕ) (n : Number) → IsDecimal n → IsReal a n → IsReal b n → a ≡ b
number_contents a b n d (inl p) (inl q) = p.0 ∙ sym q.0
number_contents a b n d (inl p) (inr (s, body, (ds, e, real, number, is), text)) =
    absurd (let ends = value_ends ds real.are_digits real.ends in let low = value_below s (digits_value 10 ds) e n d number ends in not_zero n.whole p.1 (omega arith))
number_contents a b n d (inr (s, body, (ds, e, real, number, is), text)) (inl q) =
    absurd (let ends = value_ends ds real.are_digits real.ends in let low = value_below s (digits_value 10 ds) e n d number ends in not_zero n.whole q.1 (omega arith))
number_contents a b n d (inr (s, body, (ds, e, real, number, is), text)) (inr (s', body', (ds', e', real', number', is'), text')) =
    let ends = value_ends ds real.are_digits real.ends in
    let ends' = value_ends ds' real'.are_digits real'.ends in
    let same = same_parts s s' (digits_value 10 ds) (digits_value 10 ds') e e' n d number number' ends ends' in
    let low = value_below s (digits_value 10 ds) e n d number ends in
    let low' = value_below s' (digits_value 10 ds') e' n d number' ends' in
    let small = d.small in
    let sign = one_sign s s' n.whole (sign_of_real s (digits_value 10 ds) e n number) (sign_of_real s' (digits_value 10 ds') e' n number') (omega arith) in
    let digits = numeral_is_decimal ds (numeral_of ds real) (omega arith) ∙ (ap decimal same.0 ∙ sym (numeral_is_decimal ds' (numeral_of ds' real') (omega arith))) in
    let bodies : body ≡ body' = is ∙ (ap (λ x. real_body x e) digits ∙ (ap (real_body ds') same.1 ∙ sym is')) in
    text ∙ (ap (λ x. 3 ∷ (minus_text x ++ body)) sign ∙ (ap (λ x. 3 ∷ (minus_text s' ++ x)) bodies ∙ sym text'))

zero_scale : (n : Number) → IsDecimal n → n.whole ≡ pos 0 → n.scale ≡ 0
zero_scale n d e = elim (cases_lt 0 n.scale) [
  | inl some ↦ absurd (let least = d.least some in let none = ap unsigned_abs e in omega arith)
  | inr none ↦ omega arith
]

one_real : (b : Bool) (v : ℕ) (e : ℤ) (m n : Number) → IsDecimal m → IsDecimal n → IsRealNumber b v e m → IsRealNumber b v e n → m ≡ n
one_real b v (pos e) m n dm dn p q = one_number b (v * 10 ^ e) 0 m n dm dn p q
one_real b v (negsuc e) m n dm dn p q = one_number b v (e + 1) m n dm dn p q

-- two bodies that begin alike
one_body : (b : Bool) (body : List ℕ) (m n : Number) → IsDecimal m → IsDecimal n → IsRealBody b body m → IsRealBody b body n → m ≡ n
one_body b body m n dm dn (ds, e, real, number, is) (ds', e', real', number', is') =
    let same = digits_split ds ds' (46 ∷ 69 ∷ exponent_text e) (46 ∷ 69 ∷ exponent_text e') real.are_digits real'.are_digits (sym is ∙ is') (lit≤ tt) (lit≤ tt) in
    let texts : exponent_text e ≡ exponent_text e' = (let tails = same.1 in cc) in
    let ends = value_ends ds real.are_digits real.ends in
    let ends' = value_ends ds' real'.are_digits real'.ends in
    let exponent = exponent_same e e' (exponent_small b (digits_value 10 ds) e m dm number ends) (exponent_small b (digits_value 10 ds') e' n dn number' ends') texts in
    let one = subst (λ x. IsRealNumber b (digits_value 10 x) e m) same.0 number in
    one_real b (digits_value 10 ds') e' m n dm dn (subst (λ x. IsRealNumber b (digits_value 10 ds') x m) exponent one) number'

-- a body does not begin with a minus
no_minus : (b : Bool) (body rest : List ℕ) (n : Number) → IsRealBody b body n → body ≡ 45 ∷ rest → ⊥
no_minus b body rest n (ds, e, real, number, is) same =
    let first = digits_begin ds real 45 rest (46 ∷ 69 ∷ exponent_text e) (sym is ∙ same) in omega arith

pub contents_number : (contents : List ℕ) (m n : Number) → IsDecimal m → IsDecimal n → IsReal contents m → IsReal contents n → m ≡ n
contents_number contents m n dm dn (inl p) (inl q) = number_same m n (p.1 ∙ sym q.1) (zero_scale m dm p.1 ∙ sym (zero_scale n dn q.1))
contents_number contents m n dm dn (inl p) (inr (s, body, real, text)) = absurd (let both = sym p.0 ∙ text in cc)
contents_number contents m n dm dn (inr (s, body, real, text)) (inl q) = absurd (let both = sym q.0 ∙ text in cc)
contents_number contents m n dm dn (inr (true, body, real, text)) (inr (true, body', real', text')) =
    let same : body ≡ body' = (let both = sym text ∙ text' in cc) in
    one_body true body' m n dm dn (subst (λ x. IsRealBody true x m) same real) real'
contents_number contents m n dm dn (inr (false, body, real, text)) (inr (false, body', real', text')) =
    let same : body ≡ body' = (let both = sym text ∙ text' in cc) in
    one_body false body' m n dm dn (subst (λ x. IsRealBody false x m) same real) real'
contents_number contents m n dm dn (inr (true, body, real, text)) (inr (false, body', real', text')) =
    absurd (let both = sym text' ∙ text in no_minus false body' body n real' (let same : body' ≡ 45 ∷ body = cc in same))
contents_number contents m n dm dn (inr (false, body, real, text)) (inr (true, body', real', text')) =
    absurd (let both = sym text ∙ text' in no_minus false body body' m real (let same : body ≡ 45 ∷ body' = cc in same))

-- ---- each decimal has contents, and they are short

-- a size without the zeros at its end
without_zeros : (fuel size : ℕ) → 0 < size → size < 10 ^ fuel → (digits : ℕ) × (zeros : ℕ) × (size ≡ digits * 10 ^ zeros) × (0 < digits % 10)
without_zeros zero size some small = absurd (omega arith)
without_zeros (suc fuel) size some small =
    elim (cases_lt 0 (size % 10)) [
      | inl ends ↦ (size, 0, omega arith, ends)
      | inr none ↦
          let more : 10 ^ (fuel + 1) ≡ 10 * 10 ^ fuel = pow_more fuel in
          let whole : size / 10 * 10 ≡ size = omega (arith, none) in
          let less : size / 10 < 10 ^ fuel = omega (arith, small, more, whole) in
          let (digits, zeros, same, ends) = without_zeros fuel (size / 10) (omega (arith, some, whole)) less in
          let power = ap (λ p. digits * p) (pow_more zeros) in
          let scaled : size / 10 * 10 ≡ digits * 10 ^ zeros * 10 = ap (λ v. v * 10) same in
          (digits, zeros + 1, omega (arith, whole, scaled, power), ends)
    ]

zero_whole : (z : ℤ) → unsigned_abs z ≤ 0 → z ≡ pos 0
zero_whole (pos zero) none = refl
zero_whole (pos (suc n)) none = absurd (omega (arith, none))
zero_whole (negsuc n) none = absurd (omega (arith, none))

pub contents_there : (n : Number) → IsDecimal n → (contents : List ℕ) × IsReal contents n
contents_there n d =
    elim (cases_lt 0 (unsigned_abs n.whole)) [
      | inl some ↦
          let (digits, zeros, same, ends) = without_zeros 18 (unsigned_abs n.whole) some d.small in
          (_, contents_are n digits zeros _ d same ends refl)
      | inr none ↦ ([], inl (refl, zero_whole n.whole none))
    ]

minus_length : (b : Bool) → length (minus_text b) ≤ 1
minus_length true = omega arith
minus_length false = omega arith

exponent_length : (e : ℤ) → unsigned_abs e ≤ 18 → length (exponent_text e) ≤ 3
exponent_length (pos zero) small = omega arith
exponent_length (pos (suc n)) small =
    let text = ap length (positive_text (suc n) (omega arith)) in
    omega (arith, text, length-decimal-le 2 (suc n) (omega arith) (omega (arith, small)) (omega (arith, small)))
exponent_length (negsuc n) small = omega (arith, length-decimal-le 2 (n + 1) (omega arith) (omega (arith, small)) (omega (arith, small)))

pub contents_short : (contents : List ℕ) (n : Number) → IsDecimal n → IsReal contents n → length contents ≤ 25
contents_short contents n d (inl p) = omega (arith, ap length p.0)
contents_short contents n d (inr (b, body, (ds, e, real, number, is), text)) =
    let ends = value_ends ds real.are_digits real.ends in
    let v = digits_value 10 ds in
    let low = value_below b v e n d number ends in
    let small : v < 10 ^ 18 = omega (arith, low, d.small) in
    let digits = ap length (numeral_is_decimal ds (numeral_of ds real) (omega (arith, small))) in
    let few = length-decimal-le 18 v (omega arith) small (omega (arith, small)) in
    let power = exponent_length e (exponent_small b v e n d number ends) in
    let size = ap length is ∙ length-append ds (46 ∷ 69 ∷ exponent_text e) in
    let all = ap length text in
    omega (arith, digits, few, power, size, all, minus_length b, length-append (minus_text b) body)
