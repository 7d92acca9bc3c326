-- Lists that begin with characters which pass a test.
use Rattle.std.proofs.Common.{◌≡◌, ℕ, Bool, true, not, List, [], ◌∷◌, ◌++◌, refl, sym, subst, if◌then◌else◌}
use Rattle.std.specs.List.{list_all}
use Rattle.std.proofs.lemmas.Bool.{and_parts, both_ways, not-true}

-- two lists are equal where their heads and their tails are
pub heads : {A : Type 0} (c d : A) (x y : List A) → (c ∷ x) ≡ (d ∷ y) → c ≡ d
heads c d x y e = cc

pub tails : {A : Type 0} (c d : A) (x y : List A) → (c ∷ x) ≡ (d ∷ y) → x ≡ y
tails c d x y e = cc

pub cons : {A : Type 0} (c d : A) (x y : List A) → c ≡ d → x ≡ y → (c ∷ x) ≡ (d ∷ y)
cons c d x y e f = cc

-- the list does not begin with a character that passes
abbrev pub stops : (ℕ → Bool) → List ℕ → Bool
stops p [] = true
stops p (c ∷ w) = not (p c)

-- a list that begins with a character that passes does not stop
pub stops_not : (p : ℕ → Bool) (d : ℕ) (w x : List ℕ) → p d ≡ true → stops p x ≡ true → x ≡ d ∷ w → ⊥
stops_not p d w x h s e = both_ways (p d) (not-true (p d) (subst (λ v. stops p v ≡ true) e s)) h

-- two lists of characters that pass, each behind which one does not, are one
pub span_agree : (p : ℕ → Bool) (xs ys x y : List ℕ) → list_all p xs ≡ true → list_all p ys ≡ true → stops p x ≡ true → stops p y ≡ true → xs ++ x ≡ ys ++ y → (xs ≡ ys) × (x ≡ y)
span_agree p [] [] x y a b s t e = (refl, e)
span_agree p [] (d ∷ ys) x y a b s t e = absurd (stops_not p d (ys ++ y) x (and_parts _ _ b).0 s e)
span_agree p (c ∷ xs) [] x y a b s t e = absurd (stops_not p c (xs ++ x) y (and_parts _ _ a).0 t (sym e))
span_agree p (c ∷ xs) (d ∷ ys) x y a b s t e =
    let r = span_agree p xs ys x y (and_parts _ _ a).1 (and_parts _ _ b).1 s t (tails c d _ _ e) in
    (cons c d xs ys (heads c d _ _ e) r.0, r.1)

-- the longest front of characters that pass
abbrev pub front_of : (ℕ → Bool) → List ℕ → List ℕ
front_of p [] = []
front_of p (c ∷ w) = if p c then c ∷ front_of p w else []

pub front_of-append : (p : ℕ → Bool) (xs w : List ℕ) → list_all p xs ≡ true → stops p w ≡ true → front_of p (xs ++ w) ≡ xs
front_of-append p [] [] a s = refl
front_of-append p [] (c ∷ w) a s = rw (not-true (p c) s) refl
front_of-append p (c ∷ xs) w a s = rw ((and_parts (p c) (list_all p xs) a).0, front_of-append p xs w (and_parts (p c) (list_all p xs) a).1 s) refl
