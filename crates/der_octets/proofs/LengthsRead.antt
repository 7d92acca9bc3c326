-- Length octets read: which octets are the length octets of a number.
use Rattle.std.proofs.Common.{◌≡◌, ℕ, suc, ◌+◌, ◌≤◌, ◌<◌, true, false, List, [], ◌∷◌, length, refl, sym, ap, ◌∙◌, subst, arith, inl, inr}
use Rattle.std.specs.Prelude.{nat_lt}
use Rattle.std.proofs.lemmas.Bool.Decides.{leb_tells}
use Rattle.std.specs.Int.Digits.{digits_of, number_from_digits, AllBelowBase}
use Rattle.std.proofs.lemmas.Int.Digits.{number_digits_of, all_below_base_digits_of}
use Rattle.der_octets.specs.Octets.{length_octets}
use Rattle.der_octets.proofs.Digits.{some-digits_of, digits_of_number, first_not_zero}
use Rattle.der_octets.proofs.Headers.{Tells, short_length, long_length}

-- Length octets are one octet below 128, or a count behind 128 and so many octets that make a number from 128 on, the first of which is not 0.
pub data IsLength : List ℕ → ℕ → Type 0 where
  short : (n : ℕ) → n < 128 → IsLength (n ∷ []) n
  long : (d : ℕ) (ds : List ℕ) → 0 < d → AllBelowBase 256 (d ∷ ds) → 128 ≤ number_from_digits 256 (d ∷ ds) → IsLength ((128 + length (d ∷ ds)) ∷ d ∷ ds) (number_from_digits 256 (d ∷ ds))

-- what is read as a length is written so
pub read_is_written : (octets : List ℕ) (n : ℕ) → IsLength octets n → octets ≡ length_octets n
read_is_written octets n (short m low) = sym (short_length m (below_test m low))
  where
    below_test : (m : ℕ) → m < 128 → nat_lt m 128 ≡ true
    below_test m low = go (leb_tells (suc m) 128)
      where
        go : Tells m 128 → nat_lt m 128 ≡ true
        go (inl t) = t.0
        go (inr t) = absurd (omega arith)
read_is_written octets n (long d ds some below great) =
    let value = number_from_digits 256 (d ∷ ds) in
    sym (long_length value (above_test value great) ∙ ap (λ z. (128 + length z) ∷ z) (digits_of_number d ds some below))
  where
    above_test : (m : ℕ) → 128 ≤ m → nat_lt m 128 ≡ false
    above_test m low = go (leb_tells (suc m) 128)
      where
        go : Tells m 128 → nat_lt m 128 ≡ false
        go (inl t) = absurd (omega arith)
        go (inr t) = t.0

-- what is written is read as the length that it is
pub written_is_read : (n : ℕ) → IsLength (length_octets n) n
written_is_read n = go (leb_tells (suc n) 128)
  where
    digit_list : (ds : List ℕ) → 128 ≤ n → digits_of 256 n ≡ ds → 0 < length ds → AllBelowBase 256 ds → number_from_digits 256 ds ≡ n → IsLength ((128 + length ds) ∷ ds) n
    digit_list [] low is some below value = absurd (omega arith)
    digit_list (d ∷ ds) low is some below value = subst (λ z. IsLength ((128 + length (d ∷ ds)) ∷ d ∷ ds) z) value (long d ds (first_not_zero n d ds is) below (omega (arith, value)))

    go : Tells n 128 → IsLength (length_octets n) n
    go (inl t) = subst (λ z. IsLength z n) (sym (short_length n t.0)) (short n (omega arith))
    go (inr t) =
        subst (λ z. IsLength z n) (sym (long_length n t.0))
        (digit_list (digits_of 256 n) (omega arith) refl (some-digits_of 256 n (omega arith) (omega arith)) (all_below_base_digits_of 256 n (omega arith)) (number_digits_of 256 n (omega arith)))
