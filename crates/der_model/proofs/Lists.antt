-- Two fronts of one list.
use Rattle.std.proofs.Common.{◌≡◌, ◌≤◌, ◌<◌, List, [], ◌∷◌, ◌++◌, length, refl, arith}

-- the shorter of two fronts begins the longer
pub shorter_front : {A : Type 0} (a b x y : List A) → length a ≤ length b → a ++ x ≡ b ++ y → (z : List A) × (b ≡ a ++ z) × (x ≡ z ++ y)
shorter_front [] b x y l e = (b, refl, e)
shorter_front (a ∷ more) [] x y l e = absurd (omega arith)
shorter_front (a ∷ more) (b ∷ bs) x y l e =
    let heads : a ≡ b = cc in
    let tails : more ++ x ≡ bs ++ y = cc in
    let r = shorter_front more bs x y (omega arith) tails in
    let same : bs ≡ more ++ r.0 = r.1 in
    (r.0, cc, r.2)

pub none_left : {A : Type 0} (z : List A) → 0 < length z → z ≡ [] → ⊥
none_left [] l e = absurd (omega arith)
none_left (a ∷ z) l e = absurd cc
