-- Forms of dates, told of all bytes at once.
use Rattle.std.proofs.Common.{◌≡◌, ℕ, zero, suc, ◌+◌, ◌*◌, ◌%◌, ◌^◌, ◌<◌, ◌≤◌, Bool, true, false, not, cond, ◌&&◌, inl, inr, eqb, nat_eq, List, [], ◌∷◌, map, length, take, slice_index, Fits, w8, refl, sym, ap, ap₂, ◌∙◌, arith}
use Rattle.std.specs.Prelude.{nat_lt, IsTrue, ◌↔◌}
use Rattle.std.specs.Char.{digit_value}
use Rattle.std.proofs.lemmas.Bool.{agree_below, agree_below_at, and_parts, eqb-true, eq-eqb, ne_eqb, cases_eq}
use Rattle.std.proofs.lemmas.Bool.Decides.{nat_tests}
use Rattle.std.proofs.lemmas.List.{take_all}
use Rattle.std.proofs.lemmas.Str.Parse.{digit_from_value}
use Rattle.std.proofs.lemmas.Simd.{mask_l-mod}
use Rattle.data_types.specs.Dates.{FitsPlace, HasForm}
use Rattle.data_types.specs.inner.DateParts.{AreDigits}
use lib.Lanes.{zip2, mask_l, top, Each1}

-- whether the byte may stand where the form has this one
abbrev fits_code : ℕ → ℕ → Bool
fits_code place byte = cond (eqb place 100) (nat_lt (digit_value byte) 10) (eqb byte place)

fits_is : (p x : ℕ) → fits_code p x ≡ true → FitsPlace p x
fits_is p x e = elim (cases_eq p 100) [
  | inl is ↦ inl (is, digit (sym (ap (λ b. cond b (nat_lt (digit_value x) 10) (eqb x p)) (eq-eqb p 100 is)) ∙ e))
  | inr other ↦ inr (other, eqb-true x p (sym (ap (λ b. cond b (nat_lt (digit_value x) 10) (eqb x p)) (ne_eqb p 100 other)) ∙ e))
]
  where
    digit : {n : ℕ} → nat_lt n 10 ≡ true → n < 10
    digit h = grind (arith, nat_tests)

fits_in : (p x : ℕ) → FitsPlace p x → fits_code p x ≡ true
fits_in p x (inl (is, small)) = ap (λ b. cond b (nat_lt (digit_value x) 10) (eqb x p)) (eq-eqb p 100 is) ∙ digit small
  where
    digit : {n : ℕ} → n < 10 → nat_lt n 10 ≡ true
    digit h = grind (arith, nat_tests)
fits_in p x (inr (other, same)) = ap (λ b. cond b (nat_lt (digit_value x) 10) (eqb x p)) (ne_eqb p 100 other) ∙ eq-eqb x p same

abbrev misses : ℕ → ℕ → Bool
misses place byte = not (fits_code place byte)

none_missed : (form xs : List ℕ) → length xs ≡ length form → mask_l (zip2 misses form xs) ≡ 0 → (k : ℕ) → k < length form → FitsPlace (slice_index form k) (slice_index xs k)
none_missed [] xs len none k below = absurd (omega (arith, below))
none_missed (p ∷ ps) [] len none k below = absurd (omega (arith, len))
none_missed (p ∷ ps) (x ∷ xs) len none k below = go (fits_code p x) refl none k below (none_missed ps xs (omega (arith, len)))
  where
    go : (b : Bool) → fits_code p x ≡ b → cond (not b) 1 0 + 2 * mask_l (zip2 misses ps xs) ≡ 0 → (k : ℕ) → k < length (p ∷ ps)
        → (mask_l (zip2 misses ps xs) ≡ 0 → (j : ℕ) → j < length ps → FitsPlace (slice_index ps j) (slice_index xs j)) → FitsPlace (slice_index (p ∷ ps) k) (slice_index (x ∷ xs) k)
    go false e n k below rest = absurd (omega arith)
    go true e n zero below rest = fits_is p x e
    go true e n (suc j) below rest = rest (omega arith) j (omega (arith, below))

all_fit : (form xs : List ℕ) → length xs ≡ length form → ((k : ℕ) → k < length form → FitsPlace (slice_index form k) (slice_index xs k)) → mask_l (zip2 misses form xs) ≡ 0
all_fit [] xs len each = refl
all_fit (p ∷ ps) [] len each = absurd (omega (arith, len))
all_fit (p ∷ ps) (x ∷ xs) len each = go (fits_code p x) (fits_in p x (each 0 (omega arith))) (all_fit ps xs (omega (arith, len)) (λ k below. each (suc k) (omega (arith, below))))
  where
    go : (b : Bool) → b ≡ true → mask_l (zip2 misses ps xs) ≡ 0 → cond (not b) 1 0 + 2 * mask_l (zip2 misses ps xs) ≡ 0
    go true e z = omega (arith, z)
    go false e z = absurd cc

at_most : (ps xs : List ℕ) → length (zip2 misses ps xs) ≤ length ps
at_most [] xs = omega arith
at_most (p ∷ ps) [] = omega arith
at_most (p ∷ ps) (x ∷ xs) = omega (arith, at_most ps xs)

module _ (above minus : ℕ → ℕ → ℕ) where
  -- the least byte at each place, and how far above it others may be, are those of the form
  abbrev pub agrees : List ℕ → List ℕ → List ℕ → Bool
  agrees [] [] [] = true
  agrees (p ∷ ps) (l ∷ ls) (m ∷ ms) = agree_below (λ x. top 7 (above m (minus x l))) (misses p) 256 && agrees ps ls ms
  agrees ps ls ms = false

  lanes : (form least most xs : List ℕ) → agrees form least most ≡ true → length xs ≡ length form → Each1 (Fits w8) xs
      → map (top 7) (zip2 above most (zip2 minus xs least)) ≡ zip2 misses form xs
  lanes [] [] [] [] same len fits = refl
  lanes [] [] [] (x ∷ xs) same len fits = absurd (omega (arith, len))
  lanes [] [] (m ∷ ms) xs same len fits = absurd cc
  lanes [] (l ∷ ls) ms xs same len fits = absurd cc
  lanes (p ∷ ps) [] ms xs same len fits = absurd cc
  lanes (p ∷ ps) (l ∷ ls) [] xs same len fits = absurd cc
  lanes (p ∷ ps) (l ∷ ls) (m ∷ ms) [] same len fits = absurd (omega (arith, len))
  lanes (p ∷ ps) (l ∷ ls) (m ∷ ms) (x ∷ xs) same len fits =
      let both = and_parts _ _ same in
      ap₂ (λ a b. a ∷ b) (agree_below_at (λ y. top 7 (above m (minus y l))) (misses p) 256 x both.0 fits.0.fits) (lanes ps ls ms xs both.1 (omega (arith, len)) fits.1)

  -- no bit is set where the text has the form
  pub form_told : (form least most text : List ℕ) (n : ℕ) → n ≡ length form → n ≤ 64 → agrees form least most ≡ true → length text ≡ n → Each1 (Fits w8) (take n text)
      → IsTrue (nat_eq (mask_l (map (top 7) (zip2 above most (zip2 minus (take n text) least))) % 2 ^ 64) 0) ↔ HasForm form text
  form_told form least most text n count few same len fits =
      let whole : take n text ≡ text = take_all n text (omega (arith, len)) in
      let long : length text ≡ length form = len ∙ count in
      let mask : mask_l (map (top 7) (zip2 above most (zip2 minus (take n text) least))) % 2 ^ 64 ≡ mask_l (zip2 misses form text) =
      ap (λ l. mask_l l % 2 ^ 64) (lanes form least most (take n text) same (ap length whole ∙ long) fits ∙ ap (zip2 misses form) whole)
      ∙ mask_l-mod (zip2 misses form text) 64 (omega (arith, few, count, at_most form text)) in (
        λ e. record { same_length = long; each = none_missed form text long (sym mask ∙ eqb-true _ 0 e) },
        λ has. eq-eqb _ 0 (mask ∙ all_fit form text long has.each),
      )

-- two digits of a form stand in each text that has it
pub digits_there : (form text : List ℕ) (at : ℕ) → HasForm form text → slice_index form at ≡ 100 → slice_index form (at + 1) ≡ 100 → at + 1 < length form → AreDigits text at
digits_there form text at has first second inside =
    record {
      inside = omega (arith, inside, has.same_length);
      first = digit _ _ first (has.each at (omega (arith, inside)));
      second = digit _ _ second (has.each (at + 1) inside);
    }
  where
    digit : (p x : ℕ) → p ≡ 100 → FitsPlace p x → 48 ≤ x
    digit p x e (inl (is, small)) = let range = digit_from_value x small in omega (arith, range.0)
    digit p x e (inr (other, same)) = absurd (other e)
