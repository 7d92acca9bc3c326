-- Which octets are the identifier octets of a tag with a number below 2^14, one after the other.
use Rattle.std.proofs.Common.{◌≡◌, ℕ, suc, ◌+◌, ◌/◌, ◌%◌, ◌^◌, ◌≤◌, ◌<◌, Bool, true, false, List, [], ◌∷◌, ◌++◌, sym, ap, ◌∙◌, arith, inl, inr}
use Rattle.std.specs.Prelude.{nat_lt}
use Rattle.std.proofs.lemmas.Bool.Decides.{leb_tells}
use Rattle.std.specs.Int.Digits.{digits_of}
use Rattle.std.proofs.lemmas.Int.Digits.{digits_of_step}
use Rattle.der_octets.specs.Octets.{Tag, class_bits, form_bit, with_high_bits, identifier, IsShortTag}
use Rattle.der_octets.proofs.Digits.{digits_of_digit}
use Rattle.der_octets.proofs.Headers.{Tells, short_tag, long_tag}

one_digit : (n : ℕ) → 0 < n → n < 128 → digits_of 128 n ≡ n ∷ []
one_digit n some low = digits_of_digit 128 n (omega arith) some (omega arith) (omega arith)

two_digits : (n : ℕ) → 128 ≤ n → n < 2 ^ 14 → digits_of 128 n ≡ n / 128 ∷ n % 128 ∷ []
two_digits n low high =
    digits_of_step 128 n (omega arith) (omega arith) ∙ ap (λ z. z ++ n % 128 ∷ []) (one_digit (n / 128) (omega arith) (omega arith))

below_31 : (n : ℕ) → n < 31 → nat_lt n 31 ≡ true
below_31 n low = go (leb_tells (suc n) 31)
  where
    go : Tells n 31 → nat_lt n 31 ≡ true
    go (inl t) = t.0
    go (inr t) = absurd (omega arith)

from_31 : (n : ℕ) → 31 ≤ n → nat_lt n 31 ≡ false
from_31 n low = go (leb_tells (suc n) 31)
  where
    go : Tells n 31 → nat_lt n 31 ≡ false
    go (inl t) = absurd (omega arith)
    go (inr t) = t.0

-- the bits of the class and the form
abbrev pub tag_bits : Bool → Tag → ℕ
tag_bits b t = class_bits t.class + form_bit b

-- one octet
pub one_octet : (b : Bool) (t : Tag) → t.number < 31 → identifier b t ≡ (tag_bits b t + t.number) ∷ []
one_octet b t low = short_tag b t (below_31 t.number low)

-- two octets
pub two_octets : (b : Bool) (t : Tag) → 31 ≤ t.number → t.number < 128 → identifier b t ≡ (tag_bits b t + 31) ∷ t.number ∷ []
two_octets b t low high = long_tag b t (from_31 t.number low) ∙ ap (λ z. (tag_bits b t + 31) ∷ with_high_bits z) (one_digit t.number (omega arith) high)

-- three octets
pub three_octets : (b : Bool) (t : Tag) → 128 ≤ t.number → IsShortTag t → identifier b t ≡ (tag_bits b t + 31) ∷ (128 + t.number / 128) ∷ t.number % 128 ∷ []
three_octets b t low high = long_tag b t (from_31 t.number (omega arith)) ∙ ap (λ z. (tag_bits b t + 31) ∷ with_high_bits z) (two_digits t.number low high)

-- what identifier octets are, from their first octet on
pub data TagBegun (b : Bool) (t : Tag) (first : ℕ) (others : List ℕ) : Type 0 where
  one : t.number < 31 → first ≡ tag_bits b t + t.number → others ≡ [] → TagBegun b t first others
  two : 31 ≤ t.number → t.number < 128 → first ≡ tag_bits b t + 31 → others ≡ t.number ∷ [] → TagBegun b t first others
  three : 128 ≤ t.number → first ≡ tag_bits b t + 31 → others ≡ (128 + t.number / 128) ∷ t.number % 128 ∷ [] → TagBegun b t first others

pub tag_begun : (b : Bool) (t : Tag) (first : ℕ) (others : List ℕ) → IsShortTag t → identifier b t ≡ first ∷ others → TagBegun b t first others
tag_begun b t first others short e = go (leb_tells (suc t.number) 31) (leb_tells (suc t.number) 128)
  where
    heads : (x y : ℕ) (xs ys : List ℕ) → x ∷ xs ≡ y ∷ ys → (y ≡ x) × (ys ≡ xs)
    heads x y xs ys e = (cc, cc)

    go : Tells t.number 31 → Tells t.number 128 → TagBegun b t first others
    go (inl p) q = (let h = heads _ first _ others (sym (one_octet b t (omega arith)) ∙ e) in one (omega arith) h.0 h.1)
    go (inr p) (inl q) = (let h = heads _ first _ others (sym (two_octets b t (omega arith) (omega arith)) ∙ e) in two (omega arith) (omega arith) h.0 h.1)
    go (inr p) (inr q) = (let h = heads _ first _ others (sym (three_octets b t (omega arith) short) ∙ e) in three (omega arith) h.0 h.1)
