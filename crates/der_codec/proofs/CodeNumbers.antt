-- The two's complement of the number of a code.
use Rattle.std.proofs.Common.{◌≡◌, ℕ, zero, suc, ◌<◌, ◌≤◌, ◌^◌, Bool, true, false, List, [], ◌∷◌, length, take, refl, sym, ap, ◌∙◌, subst, arith, ltb, ◌⊎◌, inl, inr}
use Rattle.std.specs.Prelude.{nat_lt, if◌then◌else◌}
use Rattle.std.specs.Int.Digits.{digits_of, number_from_digits, AllBelowBase}
use Rattle.std.proofs.lemmas.Bool.Decides.{leb_tells}
use Rattle.std.proofs.lemmas.Int.Digits.{length-digits_of-le, number_lt}
use Rattle.base64.specs.GeneralPurpose.{IsBytes}
use Rattle.lexical_core.proofs.Tests.{below_128, from_128}
use Rattle.der_octets.proofs.Digits.{digits_of_number}
use Rattle.der_model.specs.LeafContents.{with_sign_bit, integer_octets, IsInteger}
use Rattle.der_model.proofs.Integers.{integer_same}

-- octets are digits of the base 256
pub below : (xs : List ℕ) → IsBytes xs → AllBelowBase 256 xs
below [] h = tt
below (x ∷ xs) h = (h 0, below xs (λ i. h (suc i)))

as_it_is : (d : ℕ) (ds : List ℕ) → d < 128 → with_sign_bit (d ∷ ds) ≡ d ∷ ds
as_it_is d ds low = ap (λ z. if z then d ∷ ds else 0 ∷ d ∷ ds) (below_128 d low)

behind_zero : (d : ℕ) (ds : List ℕ) → 128 ≤ d → with_sign_bit (d ∷ ds) ≡ 0 ∷ d ∷ ds
behind_zero d ds high = ap (λ z. if z then d ∷ ds else 0 ∷ d ∷ ds) (from_128 d high)

-- a first digit that is not 0, and leaves the sign bit free
leads : (d : ℕ) (ds : List ℕ) → 0 < d → d < 128 → AllBelowBase 256 (d ∷ ds) → integer_octets (number_from_digits 256 (d ∷ ds)) ≡ d ∷ ds
unfolding integer_octets
leads d ds some low all = ap with_sign_bit (digits_of_number d ds some all) ∙ as_it_is d ds low

-- one that does not
hides : (d : ℕ) (ds : List ℕ) → 128 ≤ d → AllBelowBase 256 (d ∷ ds) → integer_octets (number_from_digits 256 (0 ∷ d ∷ ds)) ≡ 0 ∷ d ∷ ds
unfolding integer_octets
hides d ds high all = ap with_sign_bit (digits_of_number d ds (omega arith) all) ∙ behind_zero d ds high

-- minimal octets of a number that is not negative are those of what they make
is_written : (d : ℕ) (ds : List ℕ) → IsInteger (d ∷ ds) → d < 128 → AllBelowBase 256 (d ∷ ds) → d ∷ ds ≡ integer_octets (number_from_digits 256 (d ∷ ds))
unfolding integer_octets
is_written zero [] is low all = refl
is_written zero (e ∷ ds) is low all = sym (hides e ds (is.0 refl) all.1)
is_written (suc d) ds is low all = sym (leads (suc d) ds (omega arith) low all)

-- the first bit is free
first_free : (ds : List ℕ) (d : ℕ) (more : List ℕ) → with_sign_bit ds ≡ d ∷ more → d < 128
first_free [] d more e = (let same : 0 ≡ d = cc in omega arith)
first_free (c ∷ ds) d more e = go (leb_tells (suc c) 128)
  where
    go : ((ltb c 128 ≡ true) × (suc c ≤ 128)) ⊎ ((ltb c 128 ≡ false) × (128 < suc c)) → d < 128
    go (inl t) = (let is = sym (as_it_is c ds t.1) ∙ e in let same : c ≡ d = cc in omega (arith, same, t.1))
    go (inr t) = (let is = sym (behind_zero c ds (omega arith)) ∙ e in let same : 0 ≡ d = cc in omega arith)

not_negative : (n d : ℕ) (more : List ℕ) → d ∷ more ≡ integer_octets n → d < 128
unfolding integer_octets
not_negative n d more e = first_free (digits_of 256 n) d more (sym e)

one_longer : (ds : List ℕ) → length (with_sign_bit ds) ≤ suc (length ds)
one_longer [] = omega arith
one_longer (d ∷ ds) = go (nat_lt d 128)
  where
    go : (b : Bool) → length (if b then d ∷ ds else 0 ∷ d ∷ ds) ≤ suc (length (d ∷ ds))
    go true = omega arith
    go false = omega arith

four_digits : (n : ℕ) → n < 2 ^ 32 → length (digits_of 256 n) ≤ 4
four_digits n small = length-digits_of-le 256 4 n (omega arith) small

-- a number of 32 bits has at most five
at_most_five : (n : ℕ) → n < 2 ^ 32 → length (integer_octets n) ≤ 5
unfolding integer_octets
at_most_five n small = (let one = one_longer (digits_of 256 n) in let four = four_digits n small in omega (arith, one, four))

-- ---- a number digit by digit

below_take : (i : ℕ) (xs : List ℕ) → AllBelowBase 256 xs → AllBelowBase 256 (take i xs)
below_take zero xs h = tt
below_take (suc i) [] h = tt
below_take (suc i) (x ∷ xs) h = (h.0, below_take i xs h.1)

few : (i : ℕ) (xs : List ℕ) → length (take i xs) ≤ i
few zero xs = omega arith
few (suc i) [] = omega arith
few (suc i) (x ∷ xs) = (let rest = few i xs in omega arith)

power : (k : ℕ) → k ≤ 4 → 256 ^ k ≤ 4294967296
power zero h = omega arith
power (suc zero) h = omega arith
power (suc (suc zero)) h = omega arith
power (suc (suc (suc zero))) h = omega arith
power (suc (suc (suc (suc zero)))) h = omega arith
power (suc (suc (suc (suc (suc k))))) h = absurd (omega arith)

-- four digits make a number of 32 bits
pub four_small : (xs : List ℕ) (i n : ℕ) → IsBytes xs → i < 5 → n ≡ number_from_digits 256 (take i xs) → n < 4294967296
four_small xs i n bytes low e =
    let count = few i xs in
    let value = number_lt 256 (take i xs) (below_take i xs (below xs bytes)) in
    let most = power (length (take i xs)) (omega arith) in
    omega (arith, value, most, e)

-- ---- the octets as they come

pub no_negative : (octets : List ℕ) (d n : ℕ) (ds : List ℕ) → octets ≡ d ∷ ds → 128 ≤ d → octets ≡ integer_octets n → ⊥
no_negative octets d n ds e high is = (let low = not_negative n d ds (sym e ∙ is) in omega (arith, low, high))

pub no_longer : (octets : List ℕ) (n : ℕ) → 5 < length octets → n < 2 ^ 32 → octets ≡ integer_octets n → ⊥
no_longer octets n long small is = (let five = at_most_five n small in let same = ap length is in omega (arith, five, same, long))

pub written : (octets : List ℕ) (d : ℕ) (ds : List ℕ) → IsInteger octets → IsBytes octets → octets ≡ d ∷ ds → d < 128 → octets ≡ integer_octets (number_from_digits 256 octets)
written octets d ds is bytes e low =
    e ∙ (is_written d ds (subst IsInteger e is) low (below (d ∷ ds) (subst IsBytes e bytes)) ∙ sym (ap (λ z. integer_octets (number_from_digits 256 z)) e))

-- one octet is its own number
pub one_octet : (d : ℕ) (octets behind : List ℕ) → octets ≡ d ∷ behind → length behind ≡ 0 → d < 128 → octets ≡ integer_octets d
one_octet d octets [] e none low =
    let own : number_from_digits 256 (d ∷ []) ≡ d = omega arith in
    e ∙ is_written d [] tt low (omega (arith, low), tt) ∙ ap integer_octets own
one_octet d octets (x ∷ behind) e none low = absurd cc

pub no_greater : (octets : List ℕ) (d n value : ℕ) (ds : List ℕ) → IsInteger octets → IsBytes octets → octets ≡ d ∷ ds → d < 128 → value ≡ number_from_digits 256 octets → 2 ^ 32 ≤ value → n < 2 ^ 32 → octets ≡ integer_octets n → ⊥
no_greater octets d n value ds is bytes e low v great small same =
    let number = integer_same n (number_from_digits 256 octets) (sym same ∙ written octets d ds is bytes e low) in
    omega (arith, number, v, great, small)
