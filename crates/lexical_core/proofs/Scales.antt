-- Sizes and scales: of all pairs that make one number one has the least scale.
use Rattle.std.proofs.Common.{◌≡◌, ℕ, zero, suc, ◌+◌, ◌-◌, ◌*◌, ◌/◌, ◌%◌, ◌^◌, ◌<◌, ◌≤◌, ◌⊎◌, inl, inr, sym, ap, ◌∙◌, arith, add-one, lit<, Bool, mul_assoc}
use Rattle.std.proofs.lemmas.Bool.{cases_lt}
use Rattle.std.proofs.lemmas.Nat.{pow-add}
use Rattle.std.proofs.Math.Nat.{pow-suc, mul-le-mul_left}
use Rattle.std.specs.Int.RustNames.{unsigned_abs}
use Rattle.lexical_core.specs.Decimals.{Number, IsNumber, IsDecimal, HasNoDecimal}

pub pow_positive : (k : ℕ) → 0 < 10 ^ k
pow_positive zero = lit< tt
pow_positive (suc k) = rw (pow-suc 10 k) (let h = pow_positive k in omega arith)

pub pow_more : (k : ℕ) → 10 ^ (k + 1) ≡ 10 * 10 ^ k
pow_more k = rw (add-one, pow-suc 10 k) (omega arith)

-- equal multiples by a number above 0
pub cancel : (a b c : ℕ) → 0 < c → a * c ≡ b * c → a ≡ b
cancel a b c h e =
    elim (cases_lt a b) [
      | inl below ↦ absurd (let more : a + 1 ≤ b = omega arith in omega (arith, mul-le-mul_left c more))
      | inr above ↦ elim (cases_lt b a) [
        | inl below ↦ absurd (let more : b + 1 ≤ a = omega arith in omega (arith, mul-le-mul_left c more))
        | inr same ↦ omega arith
      ]
    ]

tenth_of : (a p b q q' : ℕ) → q ≡ 10 * q' → (10 * a) * p ≡ b * q → a * p ≡ b * q'
tenth_of a p b q q' e same = let more = ap (λ n. b * n) e in omega arith

-- a tenth on both sides
pub divide_ten : (size scale other k : ℕ) → 0 < scale → size % 10 ≡ 0 → size * 10 ^ k ≡ other * 10 ^ scale → (size / 10) * 10 ^ k ≡ other * 10 ^ (scale - 1)
divide_ten size scale other k some whole same =
    let less : (scale - 1) + 1 ≡ scale = omega arith in
    let power_is : 10 ^ scale ≡ 10 * 10 ^ (scale - 1) = sym (ap (λ n. 10 ^ n) less) ∙ pow_more (scale - 1) in
    let tenth : 10 * (size / 10) ≡ size = omega arith in
    tenth_of (size / 10) (10 ^ k) other (10 ^ scale) (10 ^ (scale - 1)) power_is (ap (λ n. n * 10 ^ k) tenth ∙ same)

-- a number with more digits after the point is no tenth
no_tenth : (w m j : ℕ) → w * 10 ^ (j + 1) ≡ m → 0 < m % 10 → ⊥
no_tenth w m j e h = let p = pow_more j in let q = ap (λ n. w * n) p in omega arith

-- the least scale of a number is below every other, and its size a part of theirs
pub least_same : (w s m f : ℕ) → w * 10 ^ f ≡ m * 10 ^ s → (0 < f → 0 < m % 10) → (f ≤ s) × (w ≡ m * 10 ^ (s - f))
least_same w s m f same least =
    elim (cases_lt s f) [
      | inl below ↦ absurd (
          let j = f - s - 1 in
          let f_is : f ≡ (j + 1) + s = omega arith in
          let split : 10 ^ f ≡ 10 ^ (j + 1) * 10 ^ s = ap (λ n. 10 ^ n) f_is ∙ pow-add 10 (j + 1) s in
          let grown : (w * 10 ^ (j + 1)) * 10 ^ s ≡ m * 10 ^ s = mul_assoc w (10 ^ (j + 1)) (10 ^ s) ∙ (ap (λ n. w * n) (sym split) ∙ same) in
          no_tenth w m j (cancel _ _ (10 ^ s) (pow_positive s) grown) (least (omega arith)))
      | inr above ↦
          let s_is : s ≡ (s - f) + f = omega arith in
          let split : 10 ^ s ≡ 10 ^ (s - f) * 10 ^ f = ap (λ n. 10 ^ n) s_is ∙ pow-add 10 (s - f) f in
          let grown : w * 10 ^ f ≡ (m * 10 ^ (s - f)) * 10 ^ f = same ∙ (ap (λ n. m * n) split ∙ sym (mul_assoc m (10 ^ (s - f)) (10 ^ f))) in
          (above, cancel _ _ (10 ^ f) (pow_positive f) grown)
    ]

pub size_grows : (w m k : ℕ) → w ≡ m * 10 ^ k → m ≤ w
size_grows w m k e = let p : 1 ≤ 10 ^ k = pow_positive k in omega (arith, mul-le-mul_left m p)

-- two pairs of one number, by way of a third
pub cross : (a f m s size scale : ℕ) → a * 10 ^ scale ≡ size * 10 ^ s → m * 10 ^ scale ≡ size * 10 ^ f → a * 10 ^ f ≡ m * 10 ^ s
cross a f m s size scale e g =
    let left = ap (λ n. n * 10 ^ f) e in
    let right = ap (λ n. n * 10 ^ s) g in
    cancel (a * 10 ^ f) (m * 10 ^ s) (10 ^ scale) (pow_positive scale) (omega arith)

-- where the least size or the least scale is too great there is no decimal
pub no_decimal : (negative : Bool) (size scale m f : ℕ) → m * 10 ^ scale ≡ size * 10 ^ f → (0 < f → 0 < m % 10) → (10 ^ 18 ≤ m) ⊎ (18 < f)
    → HasNoDecimal negative size scale
no_decimal negative size scale m f same least great n d number =
    let a = unsigned_abs n.whole in
    let one = least_same a n.scale m f (cross a f m n.scale size scale number.same_size same) least in
    let grows = size_grows a m (n.scale - f) one.1 in
    let small = d.small in
    let short = d.short in
    elim great [ inl h ↦ omega arith | inr h ↦ omega arith ]

-- a number has one decimal
pub one_size : (negative negative' : Bool) (size scale : ℕ) (m n : Number) → IsDecimal m → IsDecimal n → IsNumber negative size scale m → IsNumber negative' size scale n
    → (unsigned_abs m.whole ≡ unsigned_abs n.whole) × (m.scale ≡ n.scale)
one_size negative negative' size scale m n dm dn number other =
    let a = unsigned_abs m.whole in
    let b = unsigned_abs n.whole in
    let one = least_same a m.scale b n.scale (cross a n.scale b m.scale size scale number.same_size other.same_size) dn.least in
    let two = least_same b n.scale a m.scale (cross b m.scale a n.scale size scale other.same_size number.same_size) dm.least in
    let scales : m.scale ≡ n.scale = omega arith in
    let up = size_grows a b (m.scale - n.scale) one.1 in
    let down = size_grows b a (n.scale - m.scale) two.1 in
    (omega arith, scales)

pub pow_le : (j k : ℕ) → j ≤ k → 10 ^ j ≤ 10 ^ k
pow_le j k h =
    let k_is : k ≡ (k - j) + j = omega arith in
    let split : 10 ^ k ≡ 10 ^ (k - j) * 10 ^ j = ap (λ n. 10 ^ n) k_is ∙ pow-add 10 (k - j) j in
    let p : 1 ≤ 10 ^ (k - j) = pow_positive (k - j) in
    omega (arith, mul-le-mul_left (10 ^ j) p)

-- one number by another pair that makes it
pub IsNumber-same : (negative : Bool) (size scale size' scale' : ℕ) (n : Number) → size * 10 ^ scale' ≡ size' * 10 ^ scale → IsNumber negative size scale n
    → IsNumber negative size' scale' n
IsNumber-same negative size scale size' scale' n same number =
    let a = unsigned_abs n.whole in
    let left = ap (λ x. x * 10 ^ scale') number.same_size in
    let right = ap (λ x. x * 10 ^ n.scale) same in
    record {
      same_size = cancel (a * 10 ^ scale') (size' * 10 ^ n.scale) (10 ^ scale) (pow_positive scale) (omega arith);
      same_sign = number.same_sign;
    }

pub pow_split : (j k : ℕ) → 10 ^ (j + k) ≡ 10 ^ j * 10 ^ k
pow_split j k = pow-add 10 j k
