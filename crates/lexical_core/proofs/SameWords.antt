-- From words that are the same to bytes that are.
use Rattle.std.proofs.Common.{◌≡◌, ℕ, ◌+◌, ◌*◌, ◌%◌, ◌^◌, ◌-◌, ◌≤◌, Bool, true, false, not, cond, eqb, nat_eq, List, [], ◌∷◌, ◌++◌, map, length, take, drop, w8, refl, sym, subst, ap, ap₂, ◌∙◌, arith}
use Rattle.std.proofs.lemmas.Bool.{eqb-true}
use Rattle.std.proofs.lemmas.Bool.Decides.{Decides-eqb}
use Rattle.std.specs.Bool.{Decides}
use Rattle.std.proofs.lemmas.Simd.{mask_l-mod, tops_compared, length-zip2}
use Rattle.std.proofs.lemmas.List.{take-append-drop, take-take, take_all, length-drop}
use lib.Lanes.{zip2, mask_l, top}

abbrev differ : ℕ → ℕ → Bool
differ a b = not (eqb a b)

-- no bit is set where no lane differs
none_differ : (xs ys : List ℕ) → length xs ≡ length ys → mask_l (zip2 differ xs ys) ≡ 0 → xs ≡ ys
none_differ [] [] same none = refl
none_differ [] (y ∷ ys) same none = absurd (omega arith)
none_differ (x ∷ xs) [] same none = absurd (omega arith)
none_differ (x ∷ xs) (y ∷ ys) same none = go (eqb x y) refl none (none_differ xs ys (omega arith))
  where
    go : (b : Bool) → eqb x y ≡ b → cond (not b) 1 0 + 2 * mask_l (zip2 differ xs ys) ≡ 0 → (mask_l (zip2 differ xs ys) ≡ 0 → xs ≡ ys) → x ∷ xs ≡ y ∷ ys
    go true e none rest = ap₂ (λ a b. a ∷ b) (eqb-true x y e) (rest (omega arith))
    go false e none rest = absurd (omega arith)

-- and none differs where they are the same
same_lanes : (xs : List ℕ) → mask_l (zip2 differ xs xs) ≡ 0
same_lanes [] = refl
same_lanes (x ∷ xs) = ap₂ (λ b n. cond (not b) 1 0 + 2 * n) ((Decides-eqb x x).1 refl) (same_lanes xs)

-- that the mask of two vectors is nothing says that they are the same
pub vectors_decide : (n : ℕ) (xs ys : List ℕ) → length xs ≡ n → length ys ≡ n → n ≤ 64 → Decides (nat_eq (mask_l (map (top 7) (zip2 (λ a b. cond (not (eqb a b)) 255 0) xs ys)) % 2 ^ 64) 0) (xs ≡ ys)
vectors_decide n xs ys p q few =
    let same : length xs ≡ length ys = p ∙ sym q in
    let mask = ap (λ ms. mask_l ms % 2 ^ 64) (tops_compared w8 differ xs ys) ∙ mask_l-mod (zip2 differ xs ys) 64 (omega (arith, length-zip2 differ xs ys same)) in (
      λ none. none_differ xs ys same (sym mask ∙ eqb-true _ 0 none),
      λ e. ap (λ k. nat_eq k 0) (mask ∙ subst (λ zs. mask_l (zip2 differ xs zs) ≡ 0) e (same_lanes xs)),
    )

-- two ends that may overlap cover all
both_ends : (n last : ℕ) (xs ys : List ℕ) → length xs ≡ last + n → length ys ≡ last + n → last ≤ n → take n (drop 0 xs) ≡ take n (drop 0 ys) → take n (drop last xs) ≡ take n (drop last ys) → xs ≡ ys
both_ends n last xs ys p q le front back =
    let left = take_all n (drop last xs) (omega (arith, length-drop last xs)) in
    let right = take_all n (drop last ys) (omega (arith, length-drop last ys)) in
    sym (take-append-drop last xs)
    ∙ ap₂ (λ a b. a ++ b) (sym (take-take last n xs le) ∙ ap (take last) front ∙ take-take last n ys le) (sym left ∙ back ∙ right)
    ∙ take-append-drop last ys

-- so the last of them decides where the first is the same
pub ends_decide : (n : ℕ) (b : Bool) (xs ys : List ℕ) → length xs ≡ length ys → n ≤ length xs → length xs ≤ n + n → take n (drop 0 xs) ≡ take n (drop 0 ys)
    → Decides b (take n (drop (length xs - n) xs) ≡ take n (drop (length xs - n) ys)) → Decides b (xs ≡ ys)
ends_decide n b xs ys same low high front back = (
  λ e. both_ends n (length xs - n) xs ys (omega arith) (omega arith) (omega arith) front (back.0 e),
  λ e. back.1 (ap (λ zs. take n (drop (length xs - n) zs)) e),
)
