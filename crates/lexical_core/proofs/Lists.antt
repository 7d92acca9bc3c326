-- Small facts on lists.
use Rattle.std.proofs.Common.{◌≡◌, ◌==◌, true, false, ℕ, zero, suc, ◌+◌, ◌-◌, ◌≤◌, ◌⊎◌, inl, inr, List, [], ◌∷◌, ◌++◌, length, map, take, drop, Option, Some, None, Contains, refl, sym, ap, ◌∙◌, append_assoc, take-append-drop, arith}
use Rattle.std.specs.Prelude.{slice_get, slice_set}
use Rattle.std.proofs.lemmas.Bool.{eqb-true, eqb-false}
use Rattle.std.proofs.Math.Seq.{take-append-add}
use Rattle.std.proofs.lemmas.List.{nil_from_length, take_more, map-append}
use Rattle.std.proofs.lemmas.Option.{slice_get_within, get_or_from_slice_get}

-- what was put twice behind a front, as one
pub appended : (a b c : List ℕ) {d x y : List ℕ} → x ≡ y ++ c → y ≡ a ++ b → d ≡ b ++ c → x ≡ a ++ d
appended a b c e f g = e ∙ (ap (λ z. z ++ c) f ∙ (append_assoc a b c ∙ ap (λ z. a ++ z) (sym g)))

-- a list of which nothing is left
pub none_left : {X : Type 0} (xs : List X) → (length xs == 0) ≡ true → xs ≡ []
none_left xs e = nil_from_length xs (eqb-true (length xs) 0 e)

-- the parts of a list that is cut
pub two_parts : {X : Type 0} (n : ℕ) (all front back : List X) → front ≡ take n all → back ≡ drop n all → front ++ back ≡ all
two_parts n all front back f b = ap (λ t. t ++ back) f ∙ (ap (λ t. take n all ++ t) b ∙ take-append-drop n all)

-- the front of a list with the next item
pub take_item : {X : Type 0} (xs : List X) (n : ℕ) (x : X) → slice_get xs n ≡ Some x → take (n + 1) xs ≡ take n xs ++ x ∷ []
take_item xs n x e = take_more xs n x (slice_get_within xs n x e) ∙ ap (λ y. take n xs ++ y ∷ []) (get_or_from_slice_get xs n x x e)

-- one more item of a list is one more item of what it is mapped to
pub mapped_more : {X Y : Type 0} (f : X → Y) (xs : List X) (n : ℕ) (x : X) (ys new : List Y) (y : Y) → Some x ≡ slice_get xs n → ys ≡ map f (take n xs) → y ≡ f x → new ≡ ys ++ y ∷ []
    → new ≡ map f (take (n + 1) xs)
mapped_more f xs n x ys new y there before is grown =
    grown ∙ (ap (λ l. l ++ y ∷ []) before ∙ (ap (λ z. map f (take n xs) ++ z ∷ []) is ∙ sym (ap (map f) (take_item xs n x (sym there)) ∙ map-append f (take n xs) (x ∷ []))))

-- ---- the first item

pub same_parts : {X : Type 0} (x y : X) (xs ys : List X) → x ∷ xs ≡ y ∷ ys → (x ≡ y) × (xs ≡ ys)
same_parts x y xs ys e = (cc, cc)

pub same_first : {X : Type 0} (x y : X) (xs ys : List X) → x ∷ xs ≡ y ∷ ys → x ≡ y
same_first x y xs ys e = cc

pub same_rest : {X : Type 0} (x y : X) (xs ys : List X) → x ∷ xs ≡ y ∷ ys → xs ≡ ys
same_rest x y xs ys e = cc

pub first_apart : (c d : ℕ) (cs ds : List ℕ) → (c == d) ≡ false → c ∷ cs ≡ d ∷ ds → ⊥
first_apart c d cs ds apart e = eqb-false c d apart (same_first c d cs ds e)

-- what a list of one has
pub only_one : {X : Type 0} (x y : X) → Contains (x ∷ []) y → x ≡ y
only_one x y (zero, lt, is) = is
only_one x y (suc k, lt, is) = absurd (omega (arith, lt))

-- ---- nothing

pub nothing_joined : {X : Type 0} (xs ys : List X) → [] ≡ xs ++ ys → (xs ≡ []) × (ys ≡ [])
nothing_joined [] ys e = (refl, sym e)
nothing_joined (x ∷ xs) ys e = absurd cc

pub nothing_behind : {X : Type 0} (xs ys : List X) → [] ≡ xs ++ ys → ys ≡ []
nothing_behind xs ys e = (nothing_joined xs ys e).1

-- ---- fronts and what is behind them

pub take_past : {X : Type 0} (xs ys : List X) (n : ℕ) → length xs ≤ n → take n (xs ++ ys) ≡ xs ++ take (n - length xs) ys
take_past xs ys n h = ap (λ k. take k (xs ++ ys)) (gap (length xs) n h) ∙ take-append-add xs ys (n - length xs)
  where
    gap : (a n : ℕ) → a ≤ n → n ≡ a + (n - a)
    gap a n h = omega (arith, h)

-- ---- places that hold something or nothing

pub get_before : {X : Type 0} (xs : List (Option X)) (n : ℕ) (x : X) → slice_get (xs ++ None ∷ []) n ≡ Some (Some x) → slice_get xs n ≡ Some (Some x)
get_before [] zero x e = cc
get_before [] (suc n) x e = cc
get_before (o ∷ xs) zero x e = e
get_before (o ∷ xs) (suc n) x e = get_before xs n x e

pub get_set : {X : Type 0} (xs : List (Option X)) (k n : ℕ) (o : Option X) (x : X) → slice_get (slice_set xs k o) n ≡ Some (Some x) → ((n ≡ k) × (o ≡ Some x)) ⊎ (slice_get xs n ≡ Some (Some x))
get_set [] k n o x e = inr e
get_set (p ∷ xs) zero zero o x e = inl (refl, cc)
get_set (p ∷ xs) zero (suc n) o x e = inr e
get_set (p ∷ xs) (suc k) zero o x e = inr e
get_set (p ∷ xs) (suc k) (suc n) o x e = elim (get_set xs k n o x e) [ inl h ↦ inl (ap suc h.0, h.1) | inr h ↦ inr h ]
