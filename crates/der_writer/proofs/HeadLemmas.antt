-- How many octets heads have, and the digits of lengths.
use Rattle.std.proofs.Common.{◌≡◌, ℕ, ◌+◌, ◌/◌, ◌%◌, ◌^◌, ◌≤◌, ◌<◌, Bool, [], ◌∷◌, ◌++◌, length, sym, ap, arith}
use Rattle.std.specs.Int.Digits.{digits_of}
use Rattle.std.proofs.lemmas.Int.Digits.{length-digits_of-le, length-digits_of_step, digits_of_step}
use Rattle.lexical_core.proofs.Tests.{below_128, from_128}
use Rattle.der_octets.specs.Octets.{Tag, identifier, length_octets, IsShortTag}
use Rattle.der_octets.proofs.Headers.{short_length, long_length}
use Rattle.der_octets.proofs.TagFronts.{one_octet, two_octets, three_octets}

pub one_size : (b : Bool) (t : Tag) → t.number < 31 → 1 ≡ length (identifier b t)
one_size b t low = sym (ap length (one_octet b t low))

pub two_size : (b : Bool) (t : Tag) → 31 ≤ t.number → t.number < 128 → 2 ≡ length (identifier b t)
two_size b t low high = sym (ap length (two_octets b t low high))

pub three_size : (b : Bool) (t : Tag) → 128 ≤ t.number → IsShortTag t → 3 ≡ length (identifier b t)
three_size b t low high = sym (ap length (three_octets b t low high))

-- a number of 64 bits has at most eight digits
pub few_digits : (n : ℕ) → n < 2 ^ 64 → length (digits_of 256 n) ≤ 8
few_digits n l = length-digits_of-le 256 8 n (omega arith) l

pub digit_more : (n : ℕ) → 0 < n → length (digits_of 256 n) ≡ length (digits_of 256 (n / 256)) + 1
digit_more n some = length-digits_of_step 256 n (omega arith) some

pub digits_more : (n : ℕ) → 0 < n → digits_of 256 (n / 256) ++ n % 256 ∷ [] ≡ digits_of 256 n
digits_more n some = sym (digits_of_step 256 n (omega arith) some)

pub short_is : (n : ℕ) → n < 128 → n ∷ [] ≡ length_octets n
short_is n l = sym (short_length n (below_128 n l))

pub long_is : (n : ℕ) → 128 ≤ n → (128 + length (digits_of 256 n)) ∷ digits_of 256 n ≡ length_octets n
long_is n l = sym (long_length n (from_128 n l))
