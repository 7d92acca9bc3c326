-- A stable sort leaves what putting each element at its place leaves.
use Rattle.std.proofs.Common.{◌≡◌, ℕ, suc, ◌<◌, ◌≤◌, Bool, true, false, List, [], ◌∷◌, ◌&&◌, not, cond, length, get_or, refl, sym, ap, ◌∙◌, arith}
use Rattle.std.specs.Cmp.{IsTotalOrder, IsStrictWeakOrder}
use Rattle.std.specs.List.{AllByRecursion, filter}
use Rattle.std.specs.List.Sorted.{IsSortedBy, IsStableBy, ties}
use Rattle.std.specs.Ordering.{is_lt, ordering_reverse}
use Rattle.std.specs.declared.cmp.Ordering.{Ordering}
use Rattle.std.specs.declared.cmp.Ordering.TheVariants.{Less, Equal, Greater}
use Rattle.std.proofs.lemmas.List.Sorted.{ranks_by, sorted_far}
use Rattle.lexical_core.proofs.Lists.{same_first, same_rest}

-- the element put at its place
abbrev pub put_by : {X : Type 0} → (X → X → Ordering) → X → List X → List X
put_by R x [] = x ∷ []
put_by R x (y ∷ ys) = elim (R x y) [ Less ↦ x ∷ y ∷ ys | Equal ↦ x ∷ y ∷ ys | Greater ↦ y ∷ put_by R x ys ]

-- each put at its place, from the last
abbrev pub sorted_by : {X : Type 0} → (X → X → Ordering) → List X → List X
sorted_by R [] = []
sorted_by R (x ∷ xs) = put_by R x (sorted_by R xs)

-- none of these is less
abbrev pub NoneLess : {X : Type 0} → (X → X → Ordering) → X → List X → Type 0
NoneLess R x ys = AllByRecursion (λ y. is_lt (R y x) ≡ false) ys

-- none is less than one before it
abbrev pub Climbs : {X : Type 0} → (X → X → Ordering) → List X → Type 0
Climbs R [] = Unit {0}
Climbs R (x ∷ xs) = NoneLess R x xs × Climbs R xs

abbrev pub by_less : {X : Type 0} → (X → X → Ordering) → X → X → Bool
by_less R x y = is_lt (R x y)

order : {X : Type 0} {R : X → X → Ordering} → IsTotalOrder R → IsStrictWeakOrder (by_less R)
order o = ranks_by o (λ x. x)

-- ---- what a sort says, by recursion

none_less : {X : Type 0} (R : X → X → Ordering) (x : X) (xs : List X) → ((j : ℕ) (d : X) → j < length xs → is_lt (R (get_or xs j d) x) ≡ false) → NoneLess R x xs
none_less R x [] h = tt
none_less R x (y ∷ ys) h = (h 0 y (omega arith), none_less R x ys (λ j d lt. h (suc j) d (omega arith)))

climbs_from_places : {X : Type 0} (R : X → X → Ordering) (xs : List X) → ((i j : ℕ) (d : X) → i ≤ j → j < length xs → is_lt (R (get_or xs j d) (get_or xs i d)) ≡ false) → Climbs R xs
climbs_from_places R [] h = tt
climbs_from_places R (x ∷ xs) h = (
  none_less R x xs (λ j d lt. h 0 (suc j) d (omega arith) (omega arith)),
  climbs_from_places R xs (λ i j d le lt. h (suc i) (suc j) d (omega arith) (omega arith)),
)

climbs_from_sorted : {X : Type 0} {R : X → X → Ordering} → IsTotalOrder R → (xs : List X) → IsSortedBy (by_less R) xs → Climbs R xs
climbs_from_sorted {R = R} o xs up = climbs_from_places R xs (λ i j d le lt. sorted_far (by_less R) (order o) xs up i j d le lt)

-- ---- putting keeps the order

all-put : {X : Type 0} (R : X → X → Ordering) (P : X → Type 0) (x : X) (ys : List X) → P x → AllByRecursion P ys → AllByRecursion P (put_by R x ys)
all-put R P x [] here all = (here, tt)
all-put {X} R P x (y ∷ ys) here all = case (R x y) (all-put R P x ys here all.1)
  where
    case : (o : Ordering) → AllByRecursion P (put_by R x ys) → AllByRecursion P (elim o as (λ _. List X) [ Less ↦ x ∷ y ∷ ys | Equal ↦ x ∷ y ∷ ys | Greater ↦ y ∷ put_by R x ys ])
    case Less rest = (here, all)
    case Equal rest = (here, all)
    case Greater rest = (all.0, rest)

none_less_on : {X : Type 0} {R : X → X → Ordering} → IsTotalOrder R → (x y : X) (ys : List X) → is_lt (R y x) ≡ false → NoneLess R y ys → NoneLess R x ys
none_less_on o x y [] low all = tt
none_less_on o x y (z ∷ zs) low all = ((order o).chain z y x all.0 low, none_less_on o x y zs low all.1)

climbs-put : {X : Type 0} {R : X → X → Ordering} → IsTotalOrder R → (x : X) (ys : List X) → Climbs R ys → Climbs R (put_by R x ys)
climbs-put o x [] up = (tt, tt)
climbs-put {X} {R} o x (y ∷ ys) up = case (R x y) refl (climbs-put o x ys up.1)
  where
    case : (r : Ordering) → R x y ≡ r → Climbs R (put_by R x ys) → Climbs R (elim r as (λ _. List X) [ Less ↦ x ∷ y ∷ ys | Equal ↦ x ∷ y ∷ ys | Greater ↦ y ∷ put_by R x ys ])
    case Less e rest = let low : is_lt (R y x) ≡ false = ap is_lt (o.antisymm y x ∙ ap ordering_reverse e) in ((low, none_less_on o x y ys low up.0), up)
    case Equal e rest = let low : is_lt (R y x) ≡ false = ap is_lt (o.antisymm y x ∙ ap ordering_reverse e) in ((low, none_less_on o x y ys low up.0), up)
    case Greater e rest = (all-put R (λ z. is_lt (R z y) ≡ false) x ys (ap is_lt e) up.0, rest)

pub climbs-sorted : {X : Type 0} {R : X → X → Ordering} → IsTotalOrder R → (xs : List X) → Climbs R (sorted_by R xs)
climbs-sorted o [] = tt
climbs-sorted {R = R} o (x ∷ xs) = climbs-put o x (sorted_by R xs) (climbs-sorted o xs)

-- ---- putting keeps the order of those that tie

tie_parts : (a b : Bool) → (not a && not b) ≡ true → (a ≡ false) × (b ≡ false)
tie_parts true b e = absurd cc
tie_parts false true e = absurd cc
tie_parts false false e = (refl, refl)

swapped : {X : Type 0} (p q : Bool) (x y : X) (xs : List X) → (p ≡ true → q ≡ true → ⊥) → cond q (y ∷ cond p (x ∷ xs) xs) (cond p (x ∷ xs) xs) ≡ cond p (x ∷ cond q (y ∷ xs) xs) (cond q (y ∷ xs) xs)
swapped true true x y xs apart = absurd (apart refl refl)
swapped true false x y xs apart = refl
swapped false true x y xs apart = refl
swapped false false x y xs apart = refl

never_both : {X : Type 0} {R : X → X → Ordering} → IsTotalOrder R → (x y z : X) → R x y ≡ Greater → ties (by_less R) z x ≡ true → ties (by_less R) z y ≡ true → ⊥
never_both {R = R} o x y z e with_x with_y =
    let one = tie_parts (by_less R z x) (by_less R x z) with_x in
    let two = tie_parts (by_less R z y) (by_less R y z) with_y in
    let low : is_lt (R y x) ≡ false = (order o).chain y z x two.1 one.0 in
    let less : is_lt (R y x) ≡ true = ap is_lt (o.antisymm y x ∙ ap ordering_reverse e) in
    absurd cc

filter-put : {X : Type 0} {R : X → X → Ordering} → IsTotalOrder R → (z x : X) (ys : List X) → filter (ties (by_less R) z) (put_by R x ys) ≡ filter (ties (by_less R) z) (x ∷ ys)
filter-put o z x [] = refl
filter-put {X} {R} o z x (y ∷ ys) = case (R x y) refl (filter-put o z x ys)
  where
    case : (r : Ordering) → R x y ≡ r → filter (ties (by_less R) z) (put_by R x ys) ≡ filter (ties (by_less R) z) (x ∷ ys)
        → filter (ties (by_less R) z) (elim r as (λ _. List X) [ Less ↦ x ∷ y ∷ ys | Equal ↦ x ∷ y ∷ ys | Greater ↦ y ∷ put_by R x ys ]) ≡ filter (ties (by_less R) z) (x ∷ y ∷ ys)
    case Less e so = refl
    case Equal e so = refl
    case Greater e so = ap (λ zs. cond (ties (by_less R) z y) (y ∷ zs) zs) so ∙ swapped (ties (by_less R) z x) (ties (by_less R) z y) x y (filter (ties (by_less R) z) ys) (never_both o x y z e)

filter-sorted : {X : Type 0} {R : X → X → Ordering} → IsTotalOrder R → (z : X) (xs : List X) → filter (ties (by_less R) z) (sorted_by R xs) ≡ filter (ties (by_less R) z) xs
filter-sorted o z [] = refl
filter-sorted {R = R} o z (x ∷ xs) = filter-put o z x (sorted_by R xs) ∙ ap (λ ys. cond (ties (by_less R) z x) (x ∷ ys) ys) (filter-sorted o z xs)

-- ---- there is one such list

ties_self : {X : Type 0} {R : X → X → Ordering} → IsTotalOrder R → (x : X) → ties (by_less R) x x ≡ true
ties_self {R = R} o x = case (by_less R x x) refl
  where
    case : (b : Bool) → by_less R x x ≡ b → (not (by_less R x x) && not (by_less R x x)) ≡ true
    case true e = let other : by_less R x x ≡ false = (order o).one_way x x e in absurd cc
    case false e = ap (λ b. not b && not b) e

none_tie : {X : Type 0} {R : X → X → Ordering} → IsTotalOrder R → (a b : X) (ys : List X) → by_less R a b ≡ true → NoneLess R b ys → filter (ties (by_less R) a) ys ≡ []
none_tie o a b [] less all = refl
none_tie {R = R} o a b (y ∷ ys) less all = case (by_less R a y) refl (none_tie o a b ys less all.1)
  where
    case : (t : Bool) → by_less R a y ≡ t → filter (ties (by_less R) a) ys ≡ [] → filter (ties (by_less R) a) (y ∷ ys) ≡ []
    case true e so = ap (λ t. cond (not t && not (by_less R y a)) (y ∷ filter (ties (by_less R) a) ys) (filter (ties (by_less R) a) ys)) e ∙ so
    case false e so = let low : by_less R a b ≡ false = (order o).chain a y b e all.0 in absurd cc

apart : {X : Type 0} {R : X → X → Ordering} → IsTotalOrder R → (a b : X) (xs ys : List X) → by_less R a b ≡ true → NoneLess R b ys
    → filter (ties (by_less R) a) (a ∷ xs) ≡ filter (ties (by_less R) a) (b ∷ ys) → ⊥
apart {R = R} o a b xs ys less all same =
    let self : by_less R b b ≡ false = (tie_parts (by_less R b b) (by_less R b b) (ties_self o b)).0 in
    let rest : List _ = filter (ties (by_less R) a) xs in
    let there : a ∷ rest ≡ [] = sym (ap (λ t. cond t (a ∷ rest) rest) (ties_self o a)) ∙ same ∙ none_tie o a b (b ∷ ys) less (self, all) in
    absurd cc

not_alone : {X : Type 0} {R : X → X → Ordering} → IsTotalOrder R → (z : X) (zs : List X) → [] ≡ filter (ties (by_less R) z) (z ∷ zs) → ⊥
not_alone {R = R} o z zs same =
    let rest : List _ = filter (ties (by_less R) z) zs in
    let there : [] ≡ z ∷ rest = same ∙ ap (λ t. cond t (z ∷ rest) rest) (ties_self o z) in
    absurd cc

same_heads : {X : Type 0} {R : X → X → Ordering} → IsTotalOrder R → (y z : X) (ys zs : List X) → NoneLess R y ys → NoneLess R z zs
    → ((w : X) → filter (ties (by_less R) w) (y ∷ ys) ≡ filter (ties (by_less R) w) (z ∷ zs)) → y ≡ z
same_heads {R = R} o y z ys zs all_y all_z same = case (by_less R y z) (by_less R z y) refl refl
  where
    case : (b c : Bool) → by_less R y z ≡ b → by_less R z y ≡ c → y ≡ z
    case true c e f = absurd (apart o y z ys zs e all_z (same y))
    case false true e f = absurd (apart o z y zs ys f all_y (sym (same z)))
    case false false e f =
        let tied : ties (by_less R) y z ≡ true = ap (λ b. not b && not (by_less R z y)) e ∙ ap not f in
        let left : List _ = filter (ties (by_less R) y) ys in
        let right : List _ = filter (ties (by_less R) y) zs in
        same_first y z left right (sym (ap (λ t. cond t (y ∷ left) left) (ties_self o y)) ∙ same y ∙ ap (λ t. cond t (z ∷ right) right) tied)

same_tails : {X : Type 0} (b c : Bool) (y z : X) (ys zs : List X) → b ≡ c → cond b (y ∷ ys) ys ≡ cond c (z ∷ zs) zs → ys ≡ zs
same_tails true true y z ys zs e same = same_rest y z ys zs same
same_tails true false y z ys zs e same = absurd cc
same_tails false true y z ys zs e same = absurd cc
same_tails false false y z ys zs e same = same

pub one_sorted : {X : Type 0} {R : X → X → Ordering} → IsTotalOrder R → (ys zs : List X) → Climbs R ys → Climbs R zs
    → ((w : X) → filter (ties (by_less R) w) ys ≡ filter (ties (by_less R) w) zs) → ys ≡ zs
one_sorted o [] [] up_y up_z same = refl
one_sorted o [] (z ∷ zs) up_y up_z same = absurd (not_alone o z zs (same z))
one_sorted o (y ∷ ys) [] up_y up_z same = absurd (not_alone o y ys (sym (same y)))
one_sorted {R = R} o (y ∷ ys) (z ∷ zs) up_y up_z same =
    let head : y ≡ z = same_heads o y z ys zs up_y.0 up_z.0 same in
    let tails : ys ≡ zs = one_sorted o ys zs up_y.1 up_z.1 (λ w. same_tails (ties (by_less R) w y) (ties (by_less R) w z) y z (filter (ties (by_less R) w) ys) (filter (ties (by_less R) w) zs) (ap (ties (by_less R) w) head) (same w)) in
    ap (λ x. x ∷ ys) head ∙ ap (λ xs. z ∷ xs) tails

pub sorted_is : {X : Type 0} {R : X → X → Ordering} → IsTotalOrder R → (xs ys : List X) → IsSortedBy (by_less R) ys → IsStableBy (by_less R) xs ys → ys ≡ sorted_by R xs
sorted_is {R = R} o xs ys up stable = one_sorted o ys (sorted_by R xs) (climbs_from_sorted o ys up) (climbs-sorted o xs) (λ z. stable z ∙ sym (filter-sorted o z xs))
