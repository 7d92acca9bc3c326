-- The reader of length octets.
use Rattle.std.proofs.Common.{◌≡◌, ℕ, zero, suc, ◌+◌, ◌-◌, ◌*◌, ◌^◌, ◌≤◌, ◌<◌, List, [], ◌∷◌, ◌++◌, length, refl, sym, ap, ◌∙◌, subst, arith, ◌⊎◌, inl, inr, length-append}
use Rattle.std.proofs.lemmas.Bool.{cases_lt}
use Rattle.std.specs.Int.Digits.{number_from_digits, AllBelowBase}
use Rattle.std.proofs.lemmas.Int.Digits.{number_push, number_lt}
use Rattle.std.proofs.lemmas.List.{nil_from_length}
use Rattle.der_octets.specs.Octets.{length_octets, IsShortLength}
use Rattle.der_octets.specs.LengthSteps.{IsLead, IsLedBy, HasBegun, HasTakenLengthIn}
use Rattle.der_octets.proofs.LengthsRead.{short, read_is_written}
use Rattle.der_octets.proofs.LengthFronts.{more_pow, below_append, announced_is, Begun, alone, counted, length_begun}

pub one_octet : (n : ℕ) → n < 128 → IsShortLength n × (n ∷ [] ≡ length_octets n)
one_octet n low = (omega arith, read_is_written (n ∷ []) n (short n low))

pub bad_first : (octet : ℕ) → 128 ≤ octet → (128 < octet → octet ≤ 136 → ⊥) → (n : ℕ) (more : List ℕ) → IsShortLength n → length_octets n ≡ octet ∷ more → ⊥
bad_first octet high bad n more small e = by (length_begun n octet more small e)
  where
    by : Begun octet more → ⊥
    by (alone low is) = absurd (omega arith)
    by (counted count d ds first is low most lead below size) = bad (omega arith) (omega arith)

octets_push : (ds : List ℕ) (d : ℕ) → AllBelowBase 256 ds → d < 256 → AllBelowBase 256 (ds ++ d ∷ [])
octets_push ds d below low = below_append ds (d ∷ []) below (low, tt)

pub heads : (x y : ℕ) (xs ys : List ℕ) → x ∷ xs ≡ y ∷ ys → (x ≡ y) × (xs ≡ ys)
heads x y xs ys e = (cc, cc)

pub bad_lead : (count value octet : ℕ) (octets : List ℕ) → HasBegun count 0 value octets → (IsLead count octet → ⊥) → (n : ℕ) (more : List ℕ) → IsShortLength n → length_octets n ≡ (octets ++ octet ∷ []) ++ more → ⊥
bad_lead count value octet octets begun bad n more small e =
    let none = nil_from_length begun.others begun.come_is in
    let is : octets ≡ (128 + count) ∷ [] = begun.octets_are ∙ ap (λ z. (128 + count) ∷ z) none in
    let all : length_octets n ≡ (128 + count) ∷ octet ∷ more = e ∙ ap (λ z. (z ++ octet ∷ []) ++ more) is in
    by (length_begun n (128 + count) (octet ∷ more) small all)
  where
    by : Begun (128 + count) (octet ∷ more) → ⊥
    by (alone low is) = absurd (omega arith)
    by (counted c d ds first is low most lead below size) =
        let same : c ≡ count = omega arith in
        let h = heads octet d more ds is in
        bad (subst (λ z. IsLead z octet) same (subst (IsLead c) (sym h.0) lead))

pub small_value : (count come value : ℕ) (octets : List ℕ) → HasBegun count come value octets → value < 2 ^ 56
small_value count come value octets begun =
    let same = begun.value_is in
    let high = number_lt 256 begun.others begun.below in
    let few = begun.fewer in
    let most = begun.most in
    let size = begun.come_is in
    let p : 256 ^ length begun.others ≤ 256 ^ 7 = more_pow (length begun.others) 7 (omega arith) in
    let seven : 256 ^ 7 ≡ 72057594037927936 = refl in
    omega arith

led : (count octet come : ℕ) (others : List ℕ) → (come ≡ 0 → IsLead count octet) → length others ≡ come → IsLedBy count others → IsLedBy count (others ++ octet ∷ [])
led count octet come [] lead size h = lead (sym size)
led count octet come (d ∷ ds) lead size h = h

-- one octet more
pub more_octets : (count come value octet : ℕ) (octets : List ℕ) → HasBegun count come value octets → (come ≡ 0 → IsLead count octet) → octet < 256 → come + 1 < count → HasBegun count (come + 1) (value * 256 + octet) (octets ++ octet ∷ [])
more_octets count come value octet octets begun lead low fewer = record {
  others = begun.others ++ octet ∷ [];
  octets_are = ap (λ z. z ++ octet ∷ []) begun.octets_are;
  come_is = (let sum = length-append begun.others (octet ∷ []) in let size = begun.come_is in omega arith);
  fewer = fewer;
  most = begun.most;
  value_is = ap (λ z. z * 256 + octet) begun.value_is ∙ sym (number_push 256 begun.others octet);
  below = octets_push begun.others octet begun.below low;
  led = led count octet come begun.others lead begun.come_is begun.led;
}

-- all octets
pub all_octets : (count come value octet : ℕ) (octets : List ℕ) → HasBegun count come value octets → (come ≡ 0 → IsLead count octet) → octet < 256 → come + 1 ≡ count → IsShortLength (value * 256 + octet) × (octets ++ octet ∷ [] ≡ length_octets (value * 256 + octet))
all_octets count come value octet octets begun lead low whole =
    by (begun.others ++ octet ∷ []) refl (led count octet come begun.others lead begun.come_is begun.led) (octets_push begun.others octet begun.below low) (let sum = length-append begun.others (octet ∷ []) in let size = begun.come_is in omega arith)
  where
    number : number_from_digits 256 (begun.others ++ octet ∷ []) ≡ value * 256 + octet
    number = number_push 256 begun.others octet ∙ ap (λ z. z * 256 + octet) (sym begun.value_is)

    by : (all : List ℕ) → begun.others ++ octet ∷ [] ≡ all → IsLedBy count all → AllBelowBase 256 all → length all ≡ count → IsShortLength (value * 256 + octet) × (octets ++ octet ∷ [] ≡ length_octets (value * 256 + octet))
    by [] is l below size = absurd (let few = begun.fewer in omega arith)
    by (d ∷ ds) is l below size =
        let few = begun.fewer in
        let r = announced_is count d ds (omega arith) begun.most l below size in
        let value_is : number_from_digits 256 (d ∷ ds) ≡ value * 256 + octet = ap (number_from_digits 256) (sym is) ∙ number in
        (subst IsShortLength value_is r.0, ap (λ z. z ++ octet ∷ []) begun.octets_are ∙ (ap (λ z. (128 + count) ∷ z) is ∙ (r.1 ∙ ap length_octets value_is)))

-- what has begun was taken
pub begun_taken : (count come value : ℕ) (octets : List ℕ) → HasBegun count come value octets → HasTakenLengthIn count come value octets
begun_taken zero come value octets b = absurd (let few = b.fewer in omega arith)
begun_taken (suc count) come value octets b = b

pub taken_none : (count come value : ℕ) (octets : List ℕ) → count ≡ 0 → HasTakenLengthIn count come value octets → octets ≡ []
taken_none zero come value octets none h = h
taken_none (suc count) come value octets none h = absurd (omega arith)

pub and_more : (count come value result octet : ℕ) (octets : List ℕ) → HasBegun count come value octets → (come ≡ 0 → IsLead count octet) → octet < 256 → (come + 1 ≡ count → ⊥) → result ≡ value * 256 + octet → HasTakenLengthIn count (come + 1) result (octets ++ octet ∷ [])
and_more count come value result octet octets b lead low other is =
    let few = b.fewer in
    subst (λ z. HasTakenLengthIn count (come + 1) z (octets ++ octet ∷ [])) (sym is) (begun_taken count (come + 1) (value * 256 + octet) (octets ++ octet ∷ []) (more_octets count come value octet octets b lead low (less come count few other)))
  where
    less : (a b : ℕ) → a < b → (a + 1 ≡ b → ⊥) → a + 1 < b
    less a b l h = by (cases_lt (a + 1) b)
      where
        by : (a + 1 < b) ⊎ (b ≤ a + 1) → a + 1 < b
        by (inl m) = m
        by (inr m) = absurd (h (omega arith))
