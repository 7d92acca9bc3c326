-- A text has one number, and a number has one canonical text and one contents.
use Rattle.std.proofs.Common.{◌≡◌, ◌≢◌, ℕ, zero, suc, ◌+◌, ◌-◌, ◌*◌, ◌%◌, ◌^◌, ◌<◌, ◌≤◌, inl, inr, Bool, true, false, List, [], ◌∷◌, ◌++◌, length, get_or, Option, Some, None, ℤ, pos, negsuc, refl, sym, ap, subst, ◌∙◌, arith, le-ltb}
use Rattle.std.proofs.lemmas.Bool.{cases_lt}
use Rattle.std.proofs.lemmas.Int.Digits.{digits_value-lt}
use Rattle.std.proofs.lemmas.Fmt.{decimal-digits_value}
use Rattle.std.proofs.Math.Nat.{pow-suc, mul-le-mul_left}
use Rattle.std.specs.Char.{digit_value}
use Rattle.std.specs.Fmt.{decimal}
use Rattle.std.specs.Int.{is_negative}
use Rattle.std.specs.Int.RustNames.{unsigned_abs}
use Rattle.std.specs.Str.Parse.{AllDigits, digits_value, digits_value_after}
use Rattle.lexical_core.specs.Decimals.{Number, IsDecimal, IsNumber, signed_number, DecimalParts, fraction_digits, point_text, IsSign, PartsSpell, SpellsDecimal, IsShortFraction, IsCanonicalForm, IsCanonicalText}
use Rattle.lexical_core.specs.Reals.{minus_text}
use Rattle.lexical_core.proofs.DecimalTexts.{body_same, NoSign-digits, NoSign-point, NoDigit-point}
use Rattle.lexical_core.proofs.Numerals.{own, digit_range, digit_value_is, value_ends}
use Rattle.lexical_core.proofs.Scales.{pow_positive, pow_more, least_same, size_grows, one_size}

-- pairs with the least scale that make one number are one pair
pub same_least : (a s b t : ℕ) → a * 10 ^ t ≡ b * 10 ^ s → (0 < s → 0 < a % 10) → (0 < t → 0 < b % 10) → (a ≡ b) × (s ≡ t)
same_least a s b t e la lb =
    let one = least_same a s b t e lb in
    let two = least_same b t a s (sym e) la in
    let scales : s ≡ t = omega arith in
    let up = size_grows a b (s - t) one.1 in
    let down = size_grows b a (t - s) two.1 in
    (omega arith, scales)

pub number_same : (m n : Number) → m.whole ≡ n.whole → m.scale ≡ n.scale → m ≡ n
number_same m n e f =
    let by_whole : ℤ → Number = λ z. record { whole = z; scale = m.scale } in
    let by_scale : ℕ → Number = λ s. record { whole = n.whole; scale = s } in
    ap by_whole e ∙ ap by_scale f

same_sign : (b b' : Bool) (s s' : List ℕ) → IsSign b s → IsSign b' s' → s ≡ s' → b ≡ b'
same_sign false false s s' p q e = refl
same_sign true true s s' p q e = refl
same_sign false true s s' (inl p) q e = absurd (let h = ap length (sym p ∙ (e ∙ q)) in omega arith)
same_sign false true s s' (inr p) q e = absurd (let h = ap (λ t. get_or t 0 0) (sym p ∙ (e ∙ q)) in omega arith)
same_sign true false s s' p (inl q) e = absurd (let h = ap length (sym p ∙ (e ∙ q)) in omega arith)
same_sign true false s s' p (inr q) e = absurd (let h = ap (λ t. get_or t 0 0) (sym p ∙ (e ∙ q)) in omega arith)

same_fraction : (o o' : Option (List ℕ)) → point_text o ≡ point_text o' → fraction_digits o ≡ fraction_digits o'
same_fraction None None e = refl
same_fraction None (Some ds) e = absurd (cc)
same_fraction (Some ds) None e = absurd (cc)
same_fraction (Some ds) (Some fs) e = cc

-- one number of one sign and size
pub one_number : (negative : Bool) (size scale : ℕ) (m n : Number) → IsDecimal m → IsDecimal n → IsNumber negative size scale m → IsNumber negative size scale n → m ≡ n
one_number negative size scale m n dm dn p q =
    let same = one_size negative negative size scale m n dm dn p q in
    number_same m n (p.same_sign ∙ (ap (signed_number negative) same.0 ∙ sym q.same_sign)) same.1

pub text_number : (text : List ℕ) (m n : Number) → IsDecimal m → IsDecimal n → SpellsDecimal text m → SpellsDecimal text n → m ≡ n
text_number text m n dm dn (b, p, ps, e) (b', p', ps', e') =
    let same = body_same b b' p.sign p.whole (point_text p.fraction) p' ps.parts.sign ps.parts.whole (NoDigit-point p.fraction)
    (λ none. NoSign-digits p.whole (point_text p.fraction) ps.parts.whole (NoSign-point p.fraction)) ps'.parts (sym e ∙ e') in
    let sign = same_sign b b' p.sign p'.sign ps.parts.sign ps'.parts.sign same.0 in
    let fraction = same_fraction p.fraction p'.fraction same.2 in
    let V = digits_value 10 (p.whole ++ fraction_digits p.fraction) in
    let digits = ap (λ w. w ++ fraction_digits p.fraction) same.1 ∙ ap (λ f. p'.whole ++ f) fraction in
    let one = subst (λ c. IsNumber c V (length (fraction_digits p.fraction)) m) sign ps.number in
    let two = subst (λ f. IsNumber b' V (length f) m) fraction one in
    let three = subst (λ ds. IsNumber b' (digits_value 10 ds) (length (fraction_digits p'.fraction)) m) digits two in
    one_number b' (digits_value 10 (p'.whole ++ fraction_digits p'.fraction)) (length (fraction_digits p'.fraction)) m n dm dn three ps'.number

-- the value of digits, from the front
after_is : (n : ℕ) (ds : List ℕ) → digits_value_after 10 n ds ≡ n * 10 ^ length ds + digits_value_after 10 0 ds
after_is n [] = omega arith
after_is n (d ∷ ds) =
    let p = ap (λ x. n * x) (pow-suc 10 (length ds)) in
    let one = after_is (n * 10 + digit_value d) ds in
    let two = after_is (0 * 10 + digit_value d) ds in
    omega arith

after_append : (n : ℕ) (xs ys : List ℕ) → digits_value_after 10 n (xs ++ ys) ≡ digits_value_after 10 (digits_value_after 10 n xs) ys
after_append n [] ys = refl
after_append n (x ∷ xs) ys = after_append (n * 10 + digit_value x) xs ys

append_value : (xs ys : List ℕ) → digits_value 10 (xs ++ ys) ≡ digits_value 10 xs * 10 ^ length ys + digits_value 10 ys
append_value xs ys = after_append 0 xs ys ∙ after_is (digits_value 10 xs) ys

split_same : (a c b d p : ℕ) → b < p → d < p → a * p + b ≡ c * p + d → (a ≡ c) × (b ≡ d)
split_same a c b d p low high e =
    elim (cases_lt a c) [
      | inl below ↦ absurd (let more : a + 1 ≤ c = omega arith in let grown = mul-le-mul_left p more in omega arith)
      | inr above ↦ elim (cases_lt c a) [
        | inl below ↦ absurd (let more : c + 1 ≤ a = omega arith in let grown = mul-le-mul_left p more in omega arith)
        | inr same ↦ let equal : a ≡ c = omega arith in let parts = ap (λ x. x * p) equal in (equal, omega arith)
      ]
    ]

-- digits of one count and one value are the same
same_digits : (xs ys : List ℕ) → AllDigits 10 xs → AllDigits 10 ys → length xs ≡ length ys → digits_value 10 xs ≡ digits_value 10 ys → xs ≡ ys
same_digits [] [] ax ay l e = refl
same_digits [] (y ∷ ys) ax ay l e = absurd (omega arith)
same_digits (x ∷ xs) [] ax ay l e = absurd (omega arith)
same_digits (x ∷ xs) (y ∷ ys) ax ay l e =
    let lengths : length xs ≡ length ys = omega arith in
    let power = ap (λ k. 10 ^ k) lengths in
    let one = append_value (x ∷ []) xs in
    let two = append_value (y ∷ []) ys in
    let low = digits_value-lt 10 xs ax.1 in
    let high = digits_value-lt 10 ys ay.1 in
    let scaled = ap (λ p. digits_value 10 (y ∷ []) * p) power in
    let parts = split_same (digits_value 10 (x ∷ [])) (digits_value 10 (y ∷ [])) (digits_value 10 xs) (digits_value 10 ys) (10 ^ length xs) low (omega arith) (omega arith) in
    let vx = digit_value_is x ax.0 in let vy = digit_value_is y ay.0 in
    let rx = digit_range x ax.0 in let ry = digit_range y ay.0 in
    let first = parts.0 in
    let head : x ≡ y = omega arith in
    let tail = same_digits xs ys ax.1 ay.1 lengths parts.1 in
    cc

-- the value of canonical parts is that of the whole part, and their digits after the point are as many as the scale
canonical_value : (b : Bool) (p : DecimalParts) (n : Number) → IsDecimal n → PartsSpell b p n → IsCanonicalForm p n
    → (unsigned_abs n.whole ≡ digits_value 10 (p.whole ++ fraction_digits p.fraction)) × (n.scale ≡ length (fraction_digits p.fraction))
canonical_value b p n d ps form =
    same_least (unsigned_abs n.whole) n.scale (digits_value 10 (p.whole ++ fraction_digits p.fraction)) (length (fraction_digits p.fraction)) ps.number.same_size d.least
    (λ some. ends_so p.whole p.fraction ps.parts.fraction form.short_fraction some)
  where
    ends_so : (whole : List ℕ) (o : Option (List ℕ)) → AllDigits 10 (fraction_digits o) → IsShortFraction o → 0 < length (fraction_digits o)
        → 0 < digits_value 10 (whole ++ fraction_digits o) % 10
    ends_so whole None all short some = absurd (omega arith)
    ends_so whole (Some fs) all short some =
        let ends = value_ends fs all short in
        let value = append_value whole fs in
        let less : (length fs - 1) + 1 ≡ length fs = omega arith in
        let power = ap (λ x. digits_value 10 whole * x) (sym (ap (λ k. 10 ^ k) less) ∙ pow_more (length fs - 1)) in
        omega arith

point_same : (o o' : Option (List ℕ)) → IsShortFraction o → IsShortFraction o' → fraction_digits o ≡ fraction_digits o' → point_text o ≡ point_text o'
point_same None None p q e = refl
point_same None (Some ds) p q e = absurd (let h = ap length e in let some = q.0 in omega arith)
point_same (Some ds) None p q e = absurd (let h = ap length e in let some = p.0 in omega arith)
point_same (Some ds) (Some fs) p q e = ap (λ x. 46 ∷ x) e

-- the sign of a canonical text
sign_is : (b : Bool) (sign : List ℕ) (z : ℤ) → IsSign b sign → sign ≢ 43 ∷ [] → (z ≡ pos 0 → sign ≡ []) → z ≡ signed_number b (unsigned_abs z) → sign ≡ minus_text (is_negative z)
sign_is b sign (pos zero) is plus none e = none refl
sign_is true sign (pos (suc k)) is plus none e = absurd (cc)
sign_is false sign (pos (suc k)) (inl is) plus none e = is ∙ ap minus_text (sym (le-ltb (suc k) 0 (omega arith)))
sign_is false sign (pos (suc k)) (inr is) plus none e = absurd (plus is)
sign_is true sign (negsuc k) is plus none e = is
sign_is false sign (negsuc k) is plus none e = absurd (cc)

pub canonical_text : (a b : List ℕ) (n : Number) → IsDecimal n → IsCanonicalText a n → IsCanonicalText b n → a ≡ b
canonical_text a b n d (s, p, ps, form, e) (s', p', ps', form', e') =
    let one = canonical_value s p n d ps form in
    let two = canonical_value s' p' n d ps' form' in
    let counts : length (fraction_digits p.fraction) ≡ length (fraction_digits p'.fraction) = sym one.1 ∙ two.1 in
    let v = append_value p.whole (fraction_digits p.fraction) in
    let v' = append_value p'.whole (fraction_digits p'.fraction) in
    let low = digits_value-lt 10 (fraction_digits p.fraction) ps.parts.fraction in
    let high = digits_value-lt 10 (fraction_digits p'.fraction) ps'.parts.fraction in
    let power = ap (λ k. 10 ^ k) counts in
    let scaled = ap (λ x. digits_value 10 p'.whole * x) power in
    let values = sym one.0 ∙ two.0 in
    let parts = split_same (digits_value 10 p.whole) (digits_value 10 p'.whole) (digits_value 10 (fraction_digits p.fraction)) (digits_value 10 (fraction_digits p'.fraction))
    (10 ^ length (fraction_digits p.fraction)) low (omega arith) (omega arith) in
    let small = d.small in
    let size = one.0 in let size' = two.0 in
    let p1 : 1 ≤ 10 ^ length (fraction_digits p.fraction) = pow_positive (length (fraction_digits p.fraction)) in
    let grown = mul-le-mul_left (digits_value 10 p.whole) p1 in
    let fits : digits_value 10 p.whole < 2 ^ 64 = omega arith in
    let first = parts.0 in
    let fits' : digits_value 10 p'.whole < 2 ^ 64 = omega arith in
    let whole = sym (decimal-digits_value own p.whole ps.parts.whole form.some_whole form.no_leading_zero fits)
    ∙ (ap decimal parts.0 ∙ decimal-digits_value own p'.whole ps'.parts.whole form'.some_whole form'.no_leading_zero fits') in
    let fraction = same_digits (fraction_digits p.fraction) (fraction_digits p'.fraction) ps.parts.fraction ps'.parts.fraction counts parts.1 in
    let point = point_same p.fraction p'.fraction form.short_fraction form'.short_fraction fraction in
    let sign = sign_is s p.sign n.whole ps.parts.sign form.no_plus form.no_minus_zero ps.number.same_sign
    ∙ sym (sign_is s' p'.sign n.whole ps'.parts.sign form'.no_plus form'.no_minus_zero ps'.number.same_sign) in
    e ∙ (ap (λ x. x ++ (p.whole ++ point_text p.fraction)) sign
    ∙ (ap (λ x. p'.sign ++ (x ++ point_text p.fraction)) whole ∙ (ap (λ x. p'.sign ++ (p'.whole ++ x)) point ∙ sym e')))
