-- The number of a decimal text, and what the reader of decimal texts answers.
use Rattle.std.proofs.Common.{◌≡◌, ℕ, zero, suc, ◌*◌, ◌^◌, ◌/◌, ◌%◌, ◌<◌, ◌≤◌, Bool, true, false, List, [], ◌∷◌, ◌++◌, length, Option, Some, None, if◌then◌else◌, refl, sym, ap, ◌∙◌, subst, arith, inl, inr, append-nil}
use Rattle.std.specs.Prelude.{◌==◌}
use Rattle.std.proofs.Math.Nat.{pow-suc}
use Rattle.std.proofs.lemmas.Bool.Decides.{nat_tests}
use Rattle.std.specs.Char.{digit_value, is_ascii_digit}
use Rattle.std.specs.Int.{is_in_range}
use Rattle.std.specs.Int.RustNames.{unsigned_abs}
use Rattle.std.specs.Str.Parse.{AllDigits, digits_value}
use Rattle.lexical_core.specs.Decimals.{Number, IsNumber, IsDecimal, DecimalParts, AreParts, SpellsDecimal, IsDecimalText, IsSign, decimal_spelling, fraction_digits, point_text, signed_number}
use Rattle.lexical_core.specs.DecimalAnswers.{IsDecimalAnswer}
use Rattle.lexical_core.specs.declared.decimal_text.DecimalText.{DecimalText}
use Rattle.lexical_core.specs.declared.decimal_text.DecimalText.TheVariants.{Value, TooLong, Bad}
use Rattle.lexical_core.proofs.DecimalLaws.{same_least, number_same}
use Rattle.lexical_core.proofs.DecimalTexts.{no_digit}
use Rattle.lexical_core.proofs.Numerals.{digit_range}
use Rattle.lexical_core.proofs.Scales.{cross}
use Rattle.repo_loader.specs.FileValues.{least, number_from_text, digits_in, fraction_count, is_minus, IsBound}

-- ---- the least scale

signed_size : (b : Bool) (n : ℕ) → unsigned_abs (signed_number b n) ≡ n
signed_size true zero = refl
signed_size true (suc n) = refl
signed_size false n = refl

-- the number of this sign, size and scale, with the least scale
pub record IsLeast (b : Bool) (size scale : ℕ) (n : Number) : Type 0 where
  pub number : IsNumber b size scale n
  pub least_scale : 0 < n.scale → 0 < unsigned_abs n.whole % 10

as_it_is : (b : Bool) (size scale : ℕ) → (0 < scale → 0 < size % 10) → IsLeast b size scale (record { whole = signed_number b size; scale = scale })
as_it_is b size scale h = record {
  number = record { same_size = ap (λ x. x * 10 ^ scale) (signed_size b size); same_sign = sym (ap (signed_number b) (signed_size b size)) };
  least_scale = λ l. subst (λ x. 0 < x % 10) (sym (signed_size b size)) (h l);
}

shorter : (b : Bool) (size scale : ℕ) (n : Number) → size % 10 ≡ 0 → IsLeast b (size / 10) scale n → IsLeast b size (suc scale) n
shorter b size scale n h l =
    let whole : size ≡ (size / 10) * 10 = omega arith in
    let power = ap (λ x. unsigned_abs n.whole * x) (pow-suc 10 scale) in
    record {
      number = record {
        same_size = omega (arith, power, ap (λ x. x * 10 ^ n.scale) whole, l.number.same_size);
        same_sign = l.number.same_sign;
      };
      least_scale = l.least_scale;
    }

pub least_is : (b : Bool) (size scale : ℕ) → IsLeast b size scale (least b size scale)
least_is b size zero = as_it_is b size 0 (λ l. absurd (omega (arith, l)))
least_is b size (suc scale) = by (size % 10 == 0) refl (least_is b (size / 10) scale)
  where
    is_zero : (n : ℕ) → (n == 0) ≡ true → n ≡ 0
    is_zero n h = grind (arith, nat_tests)

    not_zero : (n : ℕ) → (n == 0) ≡ false → 0 < n
    not_zero n h = grind (arith, nat_tests)

    by : (c : Bool) → (size % 10 == 0) ≡ c → IsLeast b (size / 10) scale (least b (size / 10) scale)
        → IsLeast b size (suc scale) (if c then least b (size / 10) scale else record { whole = signed_number b size; scale = suc scale })
    by true e l = shorter b size scale (least b (size / 10) scale) (is_zero (size % 10) e) l
    by false e l = as_it_is b size (suc scale) (λ k. not_zero (size % 10) e)

-- ---- the parts of a text

digit_is : (c : ℕ) → digit_value c < 10 → is_ascii_digit c ≡ true
digit_is c h = by (is_in_range 48 57 c) refl
  where
    by : (b : Bool) → is_in_range 48 57 c ≡ b → b ≡ true
    by true e = refl
    by false e = absurd (omega (arith, no_digit c e))

no_point : (c : ℕ) → digit_value c < 10 → (c == 46) ≡ false
no_point c h = let r = digit_range c h in let low : 48 ≤ c = r.0 in grind (arith, nat_tests)

no_sign : (c : ℕ) → digit_value c < 10 → (c == 45) ≡ false
no_sign c h = let r = digit_range c h in let low : 48 ≤ c = r.0 in grind (arith, nat_tests)

digits_front : (ds rest : List ℕ) → AllDigits 10 ds → digits_in (ds ++ rest) ≡ ds ++ digits_in rest
digits_front [] rest h = refl
digits_front (d ∷ ds) rest h = ap (λ (b : Bool). if b then d ∷ digits_in (ds ++ rest) else digits_in (ds ++ rest)) (digit_is d h.0) ∙ ap (λ l. d ∷ l) (digits_front ds rest h.1)

count_front : (ds rest : List ℕ) → AllDigits 10 ds → fraction_count (ds ++ rest) ≡ fraction_count rest
count_front [] rest h = refl
count_front (d ∷ ds) rest h = ap (λ (b : Bool). if b then length (ds ++ rest) else fraction_count (ds ++ rest)) (no_point d h.0) ∙ count_front ds rest h.1

digits_point : (o : Option (List ℕ)) → AllDigits 10 (fraction_digits o) → digits_in (point_text o) ≡ fraction_digits o
digits_point None h = refl
digits_point (Some ds) h = ap digits_in (sym (append-nil ds)) ∙ digits_front ds [] h ∙ append-nil ds

count_point : (o : Option (List ℕ)) → fraction_count (point_text o) ≡ length (fraction_digits o)
count_point None = refl
count_point (Some ds) = refl

-- what stands behind the sign
abbrev unsigned_text : DecimalParts → List ℕ
unsigned_text p = p.whole ++ point_text p.fraction

digits_sign : (b : Bool) (sign rest : List ℕ) → IsSign b sign → digits_in (sign ++ rest) ≡ digits_in rest
digits_sign false sign rest (inl e) = ap (λ s. digits_in (s ++ rest)) e
digits_sign false sign rest (inr e) = ap (λ s. digits_in (s ++ rest)) e
digits_sign true sign rest e = ap (λ s. digits_in (s ++ rest)) e

count_sign : (b : Bool) (sign rest : List ℕ) → IsSign b sign → fraction_count (sign ++ rest) ≡ fraction_count rest
count_sign false sign rest (inl e) = ap (λ s. fraction_count (s ++ rest)) e
count_sign false sign rest (inr e) = ap (λ s. fraction_count (s ++ rest)) e
count_sign true sign rest e = ap (λ s. fraction_count (s ++ rest)) e

no_minus : (ds : List ℕ) (o : Option (List ℕ)) → AllDigits 10 ds → is_minus (ds ++ point_text o) ≡ false
no_minus [] None h = refl
no_minus [] (Some fs) h = refl
no_minus (d ∷ ds) o h = no_sign d h.0

minus_is : (b : Bool) (p : DecimalParts) → AreParts b p → is_minus (p.sign ++ unsigned_text p) ≡ b
minus_is b p h = by b h.sign
  where
    by : (b : Bool) → IsSign b p.sign → is_minus (p.sign ++ unsigned_text p) ≡ b
    by false (inl e) = ap (λ s. is_minus (s ++ unsigned_text p)) e ∙ no_minus p.whole p.fraction h.whole
    by false (inr e) = ap (λ s. is_minus (s ++ unsigned_text p)) e
    by true e = ap (λ s. is_minus (s ++ unsigned_text p)) e

-- the number of a text by its parts
parts_number : (b : Bool) (p : DecimalParts) → AreParts b p
    → number_from_text (decimal_spelling p) ≡ least b (digits_value 10 (p.whole ++ fraction_digits p.fraction)) (length (fraction_digits p.fraction))
parts_number b p h =
    let digits = digits_sign b p.sign (unsigned_text p) h.sign ∙ digits_front p.whole (point_text p.fraction) h.whole ∙ ap (λ l. p.whole ++ l) (digits_point p.fraction h.fraction) in
    let count = count_sign b p.sign (unsigned_text p) h.sign ∙ count_front p.whole (point_text p.fraction) h.whole ∙ count_point p.fraction in
    let minus = minus_is b p h in
    λ i. least (minus i) (digits_value 10 (digits i)) (count i)

-- ---- both ways

-- a decimal that the text spells is its number
pub spelled_number : (text : List ℕ) (n : Number) → IsDecimal n → SpellsDecimal text n → n ≡ number_from_text text
spelled_number text n d (b, p, ps, e) =
    let V = digits_value 10 (p.whole ++ fraction_digits p.fraction) in
    let F = length (fraction_digits p.fraction) in
    let l = least b V F in
    let least_l = least_is b V F in
    let same = same_least (unsigned_abs n.whole) n.scale (unsigned_abs l.whole) l.scale
    (cross (unsigned_abs n.whole) l.scale (unsigned_abs l.whole) n.scale V F ps.number.same_size least_l.number.same_size) d.least least_l.least_scale in
    number_same n l (ps.number.same_sign ∙ (ap (signed_number b) same.0 ∙ sym least_l.number.same_sign)) same.1
    ∙ sym (ap number_from_text e ∙ parts_number b p ps.parts)

-- a decimal text spells its number
pub text_spells : (text : List ℕ) → IsDecimalText text → SpellsDecimal text (number_from_text text)
text_spells text (b, p, parts, e) =
    let is = ap number_from_text e ∙ parts_number b p parts in
    (b, p, record { parts = parts; number = subst (IsNumber b _ _) (sym is) (least_is b _ _).number }, e)

-- ---- the reader's answers

-- the text is a bound with this number, or it is none
abbrev pub TellsBound : List ℕ → DecimalText → Type 0
TellsBound text (Value n) = IsBound text × (n ≡ number_from_text text)
TellsBound text TooLong = IsBound text → ⊥
TellsBound text Bad = IsBound text → ⊥

pub tells_bound : (text : List ℕ) (answer : DecimalText) → IsDecimalAnswer text answer → TellsBound text answer
tells_bound text (Value n) (d, (b, p, ps, e)) =
    let same = spelled_number text n d (b, p, ps, e) in
    (((b, p, ps.parts, e), subst IsDecimal same d), same)
tells_bound text TooLong (t, none) = λ h. none (number_from_text text) h.1 (text_spells text h.0)
tells_bound text Bad none = λ h. none h.0
