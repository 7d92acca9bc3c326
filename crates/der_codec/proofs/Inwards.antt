-- The innermost of levels.
use Rattle.std.proofs.Common.{◌≡◌, suc, ◌-◌, ◌<◌, List, [], ◌∷◌, ◌++◌, length, take, Some, None, refl, sym, ap, ◌∙◌, arith, slice_index_or, slice_set}
use Rattle.der_codec.specs.Decoding.{end_of_first}
use Rattle.der_codec.specs.Levels.{inwards, first_of, rest_of}
use Rattle.der_codec.specs.declared.level.Level.{Level}

first_before : (xs : List Level) (x : Level) → first_of xs ≡ Some x → (ys : List Level) → first_of (xs ++ ys) ≡ Some x
first_before [] x e ys = absurd cc
first_before (y ∷ xs) x e ys = e

pub last_inwards : (xs : List Level) (d : Level) → (length xs ≡ 0 → ⊥) → first_of (inwards xs) ≡ Some (slice_index_or xs (length xs - 1) d)
last_inwards [] d some = absurd (some refl)
last_inwards (x ∷ []) d some = refl
last_inwards (x ∷ y ∷ ys) d some =
    let same : length (x ∷ y ∷ ys) - 1 ≡ suc (length (y ∷ ys) - 1) = omega arith in
    first_before (inwards (y ∷ ys)) (slice_index_or (y ∷ ys) (length (y ∷ ys) - 1) d) (last_inwards (y ∷ ys) d (λ e. absurd (omega arith))) (x ∷ []) ∙ rw same refl

pub none_inwards : (xs : List Level) → length xs ≡ 0 → first_of (inwards xs) ≡ None
none_inwards [] e = refl
none_inwards (x ∷ xs) e = absurd (omega arith)

rest_before : (xs : List Level) (x : Level) (more ys : List Level) → xs ≡ x ∷ more → rest_of (xs ++ ys) ≡ more ++ ys
rest_before xs x more ys e = ap (λ z. rest_of (z ++ ys)) e

pub inwards_some : (x : Level) (xs : List Level) → (y : Level) × (more : List Level) × (inwards (x ∷ xs) ≡ y ∷ more)
inwards_some x [] = (x, [], refl)
inwards_some x (y ∷ ys) = (let r = inwards_some y ys in (r.0, r.1 ++ x ∷ [], ap (λ z. z ++ x ∷ []) r.2))

pub set_inwards : (xs : List Level) (v : Level) → 0 < length xs → inwards (slice_set xs (length xs - 1) v) ≡ v ∷ rest_of (inwards xs)
set_inwards [] v some = absurd (omega arith)
set_inwards (x ∷ []) v some = refl
set_inwards (x ∷ y ∷ ys) v some =
    let same : length (x ∷ y ∷ ys) - 1 ≡ suc (length (y ∷ ys) - 1) = omega arith in
    let r = inwards_some y ys in
    rw same (ap (λ z. z ++ x ∷ []) (set_inwards (y ∷ ys) v (omega arith)) ∙ ap (λ z. v ∷ z) (ap (λ z. rest_of z ++ x ∷ []) r.2 ∙ sym (rest_before (inwards (y ∷ ys)) r.0 r.1 (x ∷ []) r.2)))

pub push_inwards : (xs : List Level) (v : Level) → inwards (xs ++ v ∷ []) ≡ v ∷ inwards xs
push_inwards [] v = refl
push_inwards (x ∷ xs) v = ap (λ z. z ++ x ∷ []) (push_inwards xs v)

pub end_first : (xs : List Level) (x : Level) → first_of xs ≡ Some x → end_of_first xs ≡ Some x.end
end_first [] x e = absurd cc
end_first (y ∷ ys) x e = (let same : y ≡ x = cc in ap (λ (z : Level). Some z.end) same)

pub end_none : (xs : List Level) → first_of xs ≡ None → end_of_first xs ≡ None
end_none [] e = refl
end_none (y ∷ ys) e = absurd cc

pub pop_inwards : (xs : List Level) → rest_of (inwards xs) ≡ inwards (take (length xs - 1) xs)
pop_inwards [] = refl
pop_inwards (x ∷ []) = refl
pop_inwards (x ∷ y ∷ ys) =
    let same : length (x ∷ y ∷ ys) - 1 ≡ suc (length (y ∷ ys) - 1) = omega arith in
    let r = inwards_some y ys in
    rest_before (inwards (y ∷ ys)) r.0 r.1 (x ∷ []) r.2 ∙ (ap (λ z. z ++ x ∷ []) (sym (ap rest_of r.2) ∙ pop_inwards (y ∷ ys)) ∙ rw same refl)
