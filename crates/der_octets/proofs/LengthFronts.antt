-- Which octets begin length octets below 2^63, and which do not.
use Rattle.std.proofs.Common.{◌≡◌, ℕ, zero, suc, ◌+◌, ◌*◌, ◌^◌, ◌≤◌, ◌<◌, List, [], ◌∷◌, ◌++◌, length, refl, sym, ap, ◌∙◌, subst, arith, ◌⊎◌, inl, inr, length-append}
use Rattle.std.proofs.Math.Nat.{mul-le-mul_left, mul-le-mul_right, mul_assoc, pow-zero, pow-succ', pow-le-pow_right}
use Rattle.std.specs.Int.Digits.{number_from_digits_after, number_from_digits, AllBelowBase}
use Rattle.std.proofs.lemmas.Int.Digits.{number_after_lt}
use Rattle.std.proofs.lemmas.Bool.{cases_lt}
use Rattle.der_octets.specs.Octets.{length_octets, IsShortLength}
use Rattle.der_octets.specs.LengthSteps.{IsLead}
use Rattle.der_octets.proofs.LengthsRead.{IsLength, short, long, read_is_written, written_is_read}

pub more_pow : (j k : ℕ) → j ≤ k → 256 ^ j ≤ 256 ^ k
more_pow j k l = pow-le-pow_right (omega arith) l

-- digits behind a number make it at least so great
value_low : (ds : List ℕ) (acc : ℕ) → acc * 256 ^ length ds ≤ number_from_digits_after 256 acc ds
value_low [] acc = omega (arith, ap (λ x. acc * x) (pow-zero 256))
value_low (d ∷ ds) acc =
    let r = value_low ds (acc * 256 + d) in
    let p = pow-succ' 256 (length ds) in
    let grown = mul-le-mul_right (256 ^ length ds) (let k : acc * 256 ≤ acc * 256 + d = omega arith in k) in
    omega (arith, r, p, grown, mul_assoc acc 256 (256 ^ length ds), ap (λ x. acc * x) p)

pub zeros : ℕ → List ℕ
zeros zero = []
zeros (suc k) = 0 ∷ zeros k

below_zeros : (k : ℕ) → AllBelowBase 256 (zeros k)
unfolding zeros
below_zeros zero = tt
below_zeros (suc k) = (omega arith, below_zeros k)

pub below_append : (a b : List ℕ) → AllBelowBase 256 a → AllBelowBase 256 b → AllBelowBase 256 (a ++ b)
below_append [] b p q = q
below_append (x ∷ a) b (l, p) q = (l, below_append a b p q)

pub length-zeros : (k : ℕ) → length (zeros k) ≡ k
unfolding zeros
length-zeros zero = refl
length-zeros (suc k) = ap suc (length-zeros k)

-- so many octets that begin so are the octets of the length that they make
pub announced_is : (count d : ℕ) (ds : List ℕ) → 0 < count → count ≤ 8 → IsLead count d → AllBelowBase 256 (d ∷ ds) → length (d ∷ ds) ≡ count → IsShortLength (number_from_digits 256 (d ∷ ds)) × ((128 + count) ∷ d ∷ ds ≡ length_octets (number_from_digits 256 (d ∷ ds)))
announced_is count d ds low high lead (below, rest) size =
    let n = number_from_digits 256 (d ∷ ds) in
    let start : 0 * 256 + d ≡ d = omega arith in
    let same : number_from_digits 256 (d ∷ ds) ≡ number_from_digits_after 256 d ds = ap (λ z. number_from_digits_after 256 z ds) start in
    let least = value_low ds d in
    let most = number_after_lt 256 d ds rest in
    let great : 128 ≤ n = subst (λ z. 128 ≤ z) (sym same) (greater d ds count lead size least) in
    let small : n < 2 ^ 63 = subst (λ z. z < 2 ^ 63) (sym same) (smaller (cases_lt count 8) most) in
    (small, ap (λ z. (128 + z) ∷ d ∷ ds) (sym size) ∙ read_is_written ((128 + length (d ∷ ds)) ∷ d ∷ ds) n (long d ds lead.some (below, rest) great))
  where
    greater : (d : ℕ) (ds : List ℕ) (count : ℕ) → IsLead count d → length (d ∷ ds) ≡ count → d * 256 ^ length ds ≤ number_from_digits_after 256 d ds → 128 ≤ number_from_digits_after 256 d ds
    greater d [] count lead size h = lead.great (sym size)
    greater d (x ∷ xs) count lead size h =
        let p : 256 ^ 1 ≤ 256 ^ length (x ∷ xs) = more_pow 1 (length (x ∷ xs)) (omega arith) in
        let one : 1 ≤ d = lead.some in
        let grown = mul-le-mul_left (256 ^ length (x ∷ xs)) one in
        omega arith

    smaller : (count < 8) ⊎ (8 ≤ count) → number_from_digits_after 256 d ds < (d + 1) * 256 ^ length ds → number_from_digits_after 256 d ds < 2 ^ 63
    smaller (inl few) h =
        let p : 256 ^ length ds ≤ 256 ^ 6 = more_pow (length ds) 6 (omega arith) in
        let six : 256 ^ 6 ≡ 281474976710656 = refl in
        let top : d + 1 ≤ 256 = omega arith in
        let one = mul-le-mul_left (d + 1) p in
        let two = mul-le-mul_left (256 ^ 6) top in
        omega arith
    smaller (inr eight) h =
        let p : 256 ^ length ds ≤ 256 ^ 7 = more_pow (length ds) 7 (omega arith) in
        let seven : 256 ^ 7 ≡ 72057594037927936 = refl in
        let is : count ≡ 8 = omega arith in
        let lead = lead.small is in
        let top : d + 1 ≤ 128 = omega arith in
        let one = mul-le-mul_left (d + 1) p in
        let two = mul-le-mul_left (256 ^ 7) top in
        omega arith

pub announced : (count d : ℕ) (ds : List ℕ) → 0 < count → count ≤ 8 → IsLead count d → AllBelowBase 256 (d ∷ ds) → length (d ∷ ds) ≡ count → (n : ℕ) × IsShortLength n × ((128 + count) ∷ d ∷ ds ≡ length_octets n)
announced count d ds low high lead below size = (let r = announced_is count d ds low high lead below size in (number_from_digits 256 (d ∷ ds), r.0, r.1))

-- octets of a count that have begun so go on to the octets of a length
pub goes_on : (count d k : ℕ) (ds : List ℕ) → 0 < count → count ≤ 8 → IsLead count d → AllBelowBase 256 (d ∷ ds) → count ≡ length (d ∷ ds) + k → (n : ℕ) × IsShortLength n × ((128 + count) ∷ (d ∷ ds) ++ zeros k ≡ length_octets n)
goes_on count d k ds low high lead (below, rest) size =
    let sum = length-append (d ∷ ds) (zeros k) in
    let all = length-zeros k in
    announced count d (ds ++ zeros k) low high lead (below, below_append ds (zeros k) rest (below_zeros k)) (omega arith)

-- a count of 1 to 8 begins the octets of a length
pub count_begins : (k : ℕ) → k < 8 → (d n : ℕ) × IsShortLength n × ((128 + suc k) ∷ d ∷ zeros k ≡ length_octets n)
count_begins zero l =
    let r = goes_on 1 128 0 [] (omega arith) (omega arith) (record { some = omega arith; great = λ e. omega arith; small = λ e. absurd (omega arith) }) (omega arith, tt) refl in
    (128, r.0, r.1, r.2)
count_begins (suc k) l =
    let size : suc (suc k) ≡ length {A = ℕ} (1 ∷ []) + suc k = omega arith in
    let r = goes_on (suc (suc k)) 1 (suc k) [] (omega arith) (omega arith) (record { some = omega arith; great = λ e. absurd (omega arith); small = λ e. omega arith }) (omega arith, tt) size in
    (1, r.0, r.1, r.2)

-- what the octets of a length are, from their first octet on
pub data Begun (first : ℕ) (others : List ℕ) : Type 0 where
  alone : first < 128 → others ≡ [] → Begun first others
  counted : (count d : ℕ) (ds : List ℕ) → first ≡ 128 + count → others ≡ d ∷ ds → 0 < count → count ≤ 8 → IsLead count d → AllBelowBase 256 (d ∷ ds) → length (d ∷ ds) ≡ count → Begun first others

begun : (octets : List ℕ) (n : ℕ) → IsLength octets n → IsShortLength n → (first : ℕ) (others : List ℕ) → octets ≡ first ∷ others → Begun first others
begun octets n (short m low) small first others e = alone (subst (λ z. z < 128) (head m first [] others e) low) (tail m first [] others e)
  where
    head : (a b : ℕ) (x y : List ℕ) → a ∷ x ≡ b ∷ y → a ≡ b
    head a b x y e = cc

    tail : (a b : ℕ) (x y : List ℕ) → a ∷ x ≡ b ∷ y → y ≡ x
    tail a b x y e = cc
begun octets n (long d ds some (below, rest) great) small first others e =
    let start : 0 * 256 + d ≡ d = omega arith in
    let same : number_from_digits 256 (d ∷ ds) ≡ number_from_digits_after 256 d ds = ap (λ z. number_from_digits_after 256 z ds) start in
    let least = value_low ds d in
    let most = number_after_lt 256 d ds rest in
    let few : length ds ≤ 7 = at_most (cases_lt 7 (length ds)) least same in
    counted (length (d ∷ ds)) d ds (sym (head (128 + length (d ∷ ds)) first (d ∷ ds) others e)) (tail (128 + length (d ∷ ds)) first (d ∷ ds) others e) (omega arith) (omega arith)
    (record { some = some; great = λ e. one ds (omega (arith, e)) same great; small = λ e. eight (omega (arith, e)) least same }) (below, rest) refl
  where
    head : (a b : ℕ) (x y : List ℕ) → a ∷ x ≡ b ∷ y → a ≡ b
    head a b x y e = cc

    tail : (a b : ℕ) (x y : List ℕ) → a ∷ x ≡ b ∷ y → y ≡ x
    tail a b x y e = cc

    at_most : (7 < length ds) ⊎ (length ds ≤ 7) → d * 256 ^ length ds ≤ number_from_digits_after 256 d ds → number_from_digits 256 (d ∷ ds) ≡ number_from_digits_after 256 d ds → length ds ≤ 7
    at_most (inr few) least same = few
    at_most (inl many) least same =
        absurd (
        let p : 256 ^ 8 ≤ 256 ^ length ds = more_pow 8 (length ds) (omega arith) in
        let power : 256 ^ 8 ≡ 18446744073709551616 = refl in
        let one : 1 ≤ d = some in
        let grown = mul-le-mul_left (256 ^ length ds) one in
        let low : number_from_digits 256 (d ∷ ds) < 2 ^ 63 = small in
        omega arith)

    one : (ds : List ℕ) → length ds ≡ 0 → number_from_digits 256 (d ∷ ds) ≡ number_from_digits_after 256 d ds → 128 ≤ number_from_digits 256 (d ∷ ds) → 128 ≤ d
    one [] l same g = omega arith
    one (x ∷ xs) l same g = absurd (omega arith)

    eight : length ds ≡ 7 → d * 256 ^ length ds ≤ number_from_digits_after 256 d ds → number_from_digits 256 (d ∷ ds) ≡ number_from_digits_after 256 d ds → d < 128
    eight l least same = by (cases_lt d 128)
      where
        by : (d < 128) ⊎ (128 ≤ d) → d < 128
        by (inl low) = low
        by (inr high) =
            absurd (
            let p = ap (λ k. 256 ^ k) l in
            let power : 256 ^ 7 ≡ 72057594037927936 = refl in
            let grown = mul-le-mul_left (256 ^ length ds) high in
            let low : number_from_digits 256 (d ∷ ds) < 2 ^ 63 = small in
            omega arith)

-- the octets of a length below 2^63: one below 128, or a count of 1 to 8 and so many octets that begin as they may
pub length_begun : (n first : ℕ) (others : List ℕ) → IsShortLength n → length_octets n ≡ first ∷ others → Begun first others
length_begun n first others small e = begun (length_octets n) n (written_is_read n) small first others e
