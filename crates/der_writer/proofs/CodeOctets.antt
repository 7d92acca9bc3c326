-- The octets of the number of a code, one by one.
use Rattle.std.proofs.Common.{◌≡◌, ℕ, zero, suc, ◌/◌, ◌%◌, ◌≤◌, ◌<◌, Bool, true, false, List, [], ◌∷◌, ◌++◌, length, refl, sym, ap, ap₂, ◌∙◌, arith, ◌⊎◌, inl, inr}
use Rattle.std.specs.Prelude.{nat_lt, if◌then◌else◌}
use Rattle.std.proofs.lemmas.Bool.{cases_lt}
use Rattle.std.specs.Int.Digits.{digits_of}
use Rattle.std.proofs.lemmas.Int.Digits.{digits_of_step}
use Rattle.lexical_core.proofs.Tests.{below_128, from_128}
use Rattle.der_octets.proofs.Digits.{digits_of_digit, some-digits_of}
use Rattle.der_model.specs.LeafContents.{with_sign_bit, integer_octets}

pub code_one : (n : ℕ) → n < 128 → integer_octets n ≡ n ∷ []
unfolding integer_octets
code_one zero l = refl
code_one (suc n) l =
    ap with_sign_bit (digits_of_digit 256 (suc n) (omega arith) (omega arith) (omega arith) (omega arith)) ∙ ap (λ b. if b then suc n ∷ [] else 0 ∷ suc n ∷ []) (below_128 (suc n) l)

sign_more : (xs : List ℕ) (r : ℕ) → 0 < length xs → with_sign_bit (xs ++ r ∷ []) ≡ with_sign_bit xs ++ r ∷ []
sign_more [] r l = absurd (omega arith)
sign_more (d ∷ ds) r l = go (nat_lt d 128)
  where
    go : (b : Bool) → (if b then d ∷ (ds ++ r ∷ []) else 0 ∷ d ∷ (ds ++ r ∷ [])) ≡ (if b then d ∷ ds else 0 ∷ d ∷ ds) ++ r ∷ []
    go true = refl
    go false = refl

pub code_more : (n : ℕ) → 128 ≤ n → integer_octets n ≡ integer_octets (n / 256) ++ n % 256 ∷ []
unfolding integer_octets
code_more n l = go (cases_lt n 256)
  where
    go : (n < 256) ⊎ (256 ≤ n) → with_sign_bit (digits_of 256 n) ≡ with_sign_bit (digits_of 256 (n / 256)) ++ n % 256 ∷ []
    go (inl low) =
        let whole : n / 256 ≡ 0 = omega arith in
        let rest : n % 256 ≡ n = omega arith in
        ap with_sign_bit (digits_of_digit 256 n (omega arith) (omega arith) whole rest)
        ∙ (ap (λ b. if b then n ∷ [] else 0 ∷ n ∷ []) (from_128 n l) ∙ ap₂ (λ w r. with_sign_bit (digits_of 256 w) ++ r ∷ []) (sym whole) (sym rest))
    go (inr high) = ap with_sign_bit (digits_of_step 256 n (omega arith) (omega arith)) ∙ sign_more (digits_of 256 (n / 256)) (n % 256) (some-digits_of 256 (n / 256) (omega arith) (omega arith))

-- one to five octets
pub octets_1 : (n : ℕ) → n < 128 → n % 256 ∷ [] ≡ integer_octets n
octets_1 n l = (let e : n % 256 ≡ n = omega arith in ap (λ z. z ∷ []) e ∙ sym (code_one n l))

abbrev pub two : ℕ → List ℕ
two n = n / 256 % 256 ∷ n % 256 ∷ []

abbrev pub three : ℕ → List ℕ
three n = n / 256 / 256 % 256 ∷ n / 256 % 256 ∷ n % 256 ∷ []

abbrev pub four : ℕ → List ℕ
four n = n / 256 / 256 / 256 ∷ n / 256 / 256 % 256 ∷ n / 256 % 256 ∷ n % 256 ∷ []

pub octets_2 : (n : ℕ) → 128 ≤ n → n < 32768 → two n ≡ integer_octets n
octets_2 n l h = (let r = octets_1 (n / 256) (omega arith) in ap (λ z. z ++ n % 256 ∷ []) r ∙ sym (code_more n l))

pub octets_3 : (n : ℕ) → 32768 ≤ n → n < 8388608 → three n ≡ integer_octets n
octets_3 n l h = (let r = octets_2 (n / 256) (omega arith) (omega arith) in ap (λ z. z ++ n % 256 ∷ []) r ∙ sym (code_more n (omega arith)))

pub octets_4 : (n : ℕ) → 8388608 ≤ n → n < 2147483648 → four n ≡ integer_octets n
octets_4 n l h =
    let r = octets_3 (n / 256) (omega arith) (omega arith) in
    let small : n / 256 / 256 / 256 % 256 ≡ n / 256 / 256 / 256 = omega arith in
    ap (λ z. z ∷ n / 256 / 256 % 256 ∷ n / 256 % 256 ∷ n % 256 ∷ []) (sym small) ∙ (ap (λ z. z ++ n % 256 ∷ []) r ∙ sym (code_more n (omega arith)))

pub octets_5 : (n : ℕ) → 2147483648 ≤ n → n < 4294967296 → 0 ∷ four n ≡ integer_octets n
octets_5 n l h =
    let r = octets_4 (n / 256) (omega arith) (omega arith) in
    let top = n / 256 / 256 / 256 in
    let one : top / 256 ≡ 0 = omega arith in
    let rest : top % 256 ≡ top = omega arith in
    ap₂ (λ a b. a ∷ b ∷ n / 256 / 256 % 256 ∷ n / 256 % 256 ∷ n % 256 ∷ []) (sym one) (sym rest) ∙ (ap (λ z. z ++ n % 256 ∷ []) r ∙ sym (code_more n (omega arith)))
