-- The written contents of a number are those of its REAL.
use Rattle.std.proofs.Common.{◌≡◌, ℕ, zero, suc, ◌+◌, ◌*◌, ◌/◌, ◌%◌, ◌^◌, ◌<◌, true, false, List, [], ◌∷◌, ◌++◌, refl, ap, ◌∙◌, arith, eqb, ◌⊎◌, inl, inr, ◌≢◌, ℤ, pos, negsuc}
use Rattle.std.specs.Prelude.{◌==◌, if◌then◌else◌}
use Rattle.std.proofs.lemmas.Bool.Decides.{eqb_tells}
use Rattle.std.specs.Fmt.{decimal}
use Rattle.std.specs.Int.{is_negative}
use Rattle.std.specs.Int.RustNames.{unsigned_abs}
use Rattle.lexical_core.specs.Decimals.{Number, IsDecimal}
use Rattle.lexical_core.specs.Reals.{minus_text, real_body, IsReal}
use Rattle.lexical_core.specs.Exponents.{exponent_for}
use Rattle.lexical_core.proofs.Written.{contents_are, without_zero}
use Rattle.lexical_core.proofs.RealLaws.{number_contents}
use Rattle.lexical_core.proofs.Scales.{pow_more}
use Rattle.der_model.specs.RealContents.{Stripped, strip_zeros, real_contents}

-- what is left has no zero at its end, and makes the number with those that were taken
strips : (most size zeros all : ℕ) → all ≡ size * 10 ^ zeros → 0 < size → size < 10 ^ most → (all ≡ (strip_zeros most size zeros).size * 10 ^ (strip_zeros most size zeros).zeros) × (0 < (strip_zeros most size zeros).size % 10)
strips zero size zeros all e some small = absurd (let one : 10 ^ 0 ≡ 1 = refl in omega arith)
strips (suc most) size zeros all e some small = go (eqb_tells (size % 10) 0) (λ whole. strips most (size / 10) (suc zeros) all (tenth whole) (omega (arith, whole)) below)
  where
    tenth : size % 10 ≡ 0 → all ≡ (size / 10) * 10 ^ suc zeros
    tenth whole = (let r = without_zero size all zeros e whole in let k : zeros + 1 ≡ suc zeros = omega arith in r ∙ ap (λ z. (size / 10) * 10 ^ z) k)

    below : size / 10 < 10 ^ most
    below = (let p = pow_more most in let k : most + 1 ≡ suc most = omega arith in let q = ap (λ z. 10 ^ z) k in omega arith)

    go : ((eqb (size % 10) 0 ≡ true) × (size % 10 ≡ 0)) ⊎ ((eqb (size % 10) 0 ≡ false) × (size % 10 ≢ 0)) → (size % 10 ≡ 0 → (all ≡ (strip_zeros most (size / 10) (suc zeros)).size * 10 ^ (strip_zeros most (size / 10) (suc zeros)).zeros) × (0 < (strip_zeros most (size / 10) (suc zeros)).size % 10))
        → (all ≡ (if size % 10 == 0 then strip_zeros most (size / 10) (suc zeros) else record { size = size; zeros = zeros }).size * 10 ^ (if size % 10 == 0 then strip_zeros most (size / 10) (suc zeros) else record { size = size; zeros = zeros }).zeros) × (0 < (if size % 10 == 0 then strip_zeros most (size / 10) (suc zeros) else record { size = size; zeros = zeros }).size % 10)
    go (inl t) r = rw t.0 (r t.1)
    go (inr t) r = rw t.0 (e, positive (size % 10) t.1)
      where
        positive : (n : ℕ) → n ≢ 0 → 0 < n
        positive zero h = absurd (h refl)
        positive (suc n) h = omega arith

abs_zero : (z : ℤ) → unsigned_abs z ≡ 0 → z ≡ pos 0
abs_zero (pos n) e = ap pos e
abs_zero (negsuc n) e = absurd (omega arith)

abbrev part_of : Number → Stripped
part_of n = strip_zeros 18 (unsigned_abs n.whole) 0

abbrev text_of : Number → List ℕ
text_of n = 3 ∷ (minus_text (is_negative n.whole) ++ real_body (decimal (part_of n).size) (exponent_for n.scale (part_of n).zeros))

times_one : (k : ℕ) → k ≡ k * 10 ^ 0
times_one k = omega arith

above_zero : (n : ℕ) → n ≢ 0 → 0 < n
above_zero zero h = absurd (h refl)
above_zero (suc n) h = omega arith

text_is : (n : Number) → IsDecimal n → 0 < unsigned_abs n.whole → IsReal (text_of n) n
text_is n d low = (let r = strips 18 (unsigned_abs n.whole) 0 (unsigned_abs n.whole) (times_one (unsigned_abs n.whole)) low d.small in contents_are n (part_of n).size (part_of n).zeros (text_of n) d r.0 r.1 refl)

-- the contents that are written are those of the number
pub written_is : (n : Number) → IsDecimal n → IsReal (real_contents n) n
unfolding real_contents
written_is n d = go (eqb_tells (unsigned_abs n.whole) 0)
  where
    go : ((eqb (unsigned_abs n.whole) 0 ≡ true) × (unsigned_abs n.whole ≡ 0)) ⊎ ((eqb (unsigned_abs n.whole) 0 ≡ false) × (unsigned_abs n.whole ≢ 0)) → IsReal (if unsigned_abs n.whole == 0 then [] else text_of n) n
    go (inl t) = rw t.0 (inl (refl, abs_zero n.whole t.1))
    go (inr t) = rw t.0 (text_is n d (above_zero (unsigned_abs n.whole) t.1))

-- contents are those of the number exactly where they are the ones that are written
pub real_is : (contents : List ℕ) (n : Number) → IsDecimal n → IsReal contents n → contents ≡ real_contents n
real_is contents n d real = number_contents contents (real_contents n) n d real (written_is n d)
