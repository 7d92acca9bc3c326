-- Runs of codes that are no white space.
use Rattle.std.proofs.Common.{◌≡◌, ℕ, zero, suc, ◌+◌, ◌*◌, ◌%◌, ◌^◌, ◌<◌, ◌≤◌, Bool, true, false, cond, inl, inr, List, [], ◌∷◌, map, length, take, drop, slice_index, replicate, leb, Fits, w8, refl, sym, subst, ◌∙◌, arith}
use Rattle.std.specs.List.{AllByRecursion, prefix_len}
use Rattle.std.proofs.lemmas.Bool.{leb-false}
use Rattle.std.proofs.lemmas.Bool.Decides.{nat_tests}
use Rattle.std.proofs.lemmas.Simd.{zip2_splat}
use Rattle.lexical_core.proofs.LaneRuns.{masked}
use lib.Lanes.{zip2, mask_l, top, Each1}
use Rattle.lexical_core.specs.Characters.{IsSpace}
use Rattle.data_types.specs.inner.Words.{is_word_code}

no_space : (c : ℕ) → is_word_code c ≡ true → IsSpace c → ⊥
no_space c e (inl i) = absurd (let no : is_word_code 32 ≡ true = subst (λ x. is_word_code x ≡ true) i e in cc)
no_space c e (inr (inl i)) = absurd (let no : is_word_code 9 ≡ true = subst (λ x. is_word_code x ≡ true) i e in cc)
no_space c e (inr (inr (inl i))) = absurd (let no : is_word_code 10 ≡ true = subst (λ x. is_word_code x ≡ true) i e in cc)
no_space c e (inr (inr (inr i))) = absurd (let no : is_word_code 13 ≡ true = subst (λ x. is_word_code x ≡ true) i e in cc)

is_code : (c : ℕ) → (IsSpace c → ⊥) → is_word_code c ≡ true
is_code c none = grind (arith, nat_tests)

front_by : (x : ℕ) (xs : List ℕ) (n : ℕ) (b : Bool) → is_word_code x ≡ b → suc n ≤ cond b (1 + prefix_len is_word_code xs) 0
    → (n ≤ prefix_len is_word_code xs → AllByRecursion (λ c. IsSpace c → ⊥) (take n xs)) → AllByRecursion (λ c. IsSpace c → ⊥) (x ∷ take n xs)
front_by x xs n true e k rest = (no_space x e, rest (omega (arith, k)))
front_by x xs n false e k rest = absurd (omega (arith, k))

pub word_front : (codes : List ℕ) (n : ℕ) → n ≤ prefix_len is_word_code codes → AllByRecursion (λ c. IsSpace c → ⊥) (take n codes)
word_front codes zero h = tt
word_front [] (suc n) h = tt
word_front (x ∷ xs) (suc n) h = front_by x xs n (is_word_code x) refl h (word_front xs n)

first_by : (x : ℕ) (xs : List ℕ) (n : ℕ) (b : Bool) → b ≡ true → n ≡ cond b (1 + prefix_len is_word_code xs) 0 → 0 < n
first_by x xs n true e k = omega (arith, k)
first_by x xs n false e k = absurd cc

pub some_word : (codes : List ℕ) (n : ℕ) → n ≡ prefix_len is_word_code codes → 0 < length codes → (IsSpace (slice_index codes 0) → ⊥) → 0 < n
some_word [] n is some none = absurd (omega (arith, some))
some_word (x ∷ xs) n is some none = first_by x xs n (is_word_code x) (is_code x none) is

above : {c : ℕ} → 32 < c → IsSpace c → ⊥
above h (inl i) = omega arith
above h (inr (inl i)) = omega arith
above h (inr (inr (inl i))) = omega arith
above h (inr (inr (inr i))) = omega arith

-- codes above the space are no white space
none_set : (xs : List ℕ) → mask_l (map (λ x. leb x 32) xs) ≡ 0 → AllByRecursion (λ c. IsSpace c → ⊥) xs
none_set [] e = tt
none_set (x ∷ xs) e = go (leb x 32) refl e (none_set xs)
  where
    go : (b : Bool) → leb x 32 ≡ b → cond b 1 0 + 2 * mask_l (map (λ y. leb y 32) xs) ≡ 0 → (mask_l (map (λ y. leb y 32) xs) ≡ 0 → AllByRecursion (λ c. IsSpace c → ⊥) xs)
        → (IsSpace x → ⊥) × AllByRecursion (λ c. IsSpace c → ⊥) xs
    go true t n rest = absurd (omega arith)
    go false t n rest = (λ s. above (leb-false x 32 t) s, rest (omega arith))

-- no bit of the mask is set
pub all_above : (n : ℕ) (v : List ℕ) → length v ≡ n → n ≤ 64 → Each1 (Fits w8) v
    → mask_l (map (top 7) (zip2 (λ a b. cond (leb a b) 255 0) v (replicate n 32))) % 2 ^ 64 ≡ 0 → AllByRecursion (λ c. IsSpace c → ⊥) v
all_above n v long few fits none =
    none_set v (sym (masked _ (λ x. leb x 32) v _ (omega (arith, long)) fits (zip2_splat _ v n 32 long) refl) ∙ none)

module _ (P : ℕ → Type 0) where
  whole : (n : ℕ) (xs : List ℕ) → length xs ≤ n → AllByRecursion P (take n xs) → AllByRecursion P xs
  whole n [] few all = tt
  whole zero (x ∷ xs) few all = absurd (omega arith)
  whole (suc n) (x ∷ xs) few all = (all.0, whole n xs (omega arith) all.1)

  fewer : (m n : ℕ) (xs : List ℕ) → m ≤ n → AllByRecursion P (take n xs) → AllByRecursion P (take m xs)
  fewer zero n xs le all = tt
  fewer (suc m) zero xs le all = absurd (omega arith)
  fewer (suc m) (suc n) [] le all = tt
  fewer (suc m) (suc n) (x ∷ xs) le all = (all.0, fewer m n xs (omega arith) all.1)

  joined_all : (n last : ℕ) (xs : List ℕ) → length xs ≤ last + n → AllByRecursion P (take last xs) → AllByRecursion P (take n (drop last xs)) → AllByRecursion P xs
  joined_all n zero xs few front back = whole n xs (omega (arith, few)) back
  joined_all n (suc k) [] few front back = tt
  joined_all n (suc k) (x ∷ xs) few front back = (front.0, joined_all n k xs (omega arith) front.1 back)

  -- two ends that may overlap cover all
  pub ends_all : (n last : ℕ) (xs : List ℕ) → length xs ≡ last + n → last ≤ n → AllByRecursion P (take n (drop 0 xs)) → AllByRecursion P (take n (drop last xs)) → AllByRecursion P xs
  ends_all n last xs len le front back = joined_all n last xs (omega (arith, len)) (fewer last n xs le front) back
