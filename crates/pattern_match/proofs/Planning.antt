-- The plan of a syntax tree, and that it has the same words.
use Rattle.std.proofs.Common.{◌≡◌, ◌≢◌, ℕ, zero, suc, ◌+◌, ◌-◌, ◌*◌, ◌≤◌, ◌<◌, max, ◌⊎◌, ◌↔◌, inl, inr, Bool, true, false, cond, ◌==◌, nat_lt, Option, Some, None, List, [], ◌++◌, refl, sym, ap, ◌∙◌, subst, ⊎_elim, arith, append_assoc, zero-add, eqb-true, ltb-true}
use Rattle.std.proofs.lemmas.Bool.{eqb-false}
use Rattle.pattern_match.specs.Expression.{Quantifier, Once, Optional, AnyNumber, OneOrMore, Exactly, AtLeast, Between, Expression, Empty, Piece, Group, Choice}
use Rattle.pattern_match.specs.Valid.{IsExpression, IsQuantifier, digits_number}
use Rattle.pattern_match.specs.Positions.{copies, positions}
use Rattle.pattern_match.specs.Language.{Repeats, IsBoth, Allows, IsQuantified, IsOneOf, Lang}
use Rattle.pattern_match.specs.inner.Plan.{Plan, Star, Flagged, PlanLang}

-- the least and the greatest number of parts that a quantifier allows
abbrev pub least_of : Quantifier → ℕ
least_of Once = 1
least_of Optional = 0
least_of AnyNumber = 0
least_of OneOrMore = 1
least_of (Exactly n) = digits_number n
least_of (AtLeast n) = digits_number n
least_of (Between n m) = digits_number n

abbrev pub most_of : Quantifier → Option ℕ
most_of Once = Some 1
most_of Optional = Some 1
most_of AnyNumber = None
most_of OneOrMore = None
most_of (Exactly n) = Some (digits_number n)
most_of (AtLeast n) = None
most_of (Between n m) = Some (digits_number m)

abbrev pub Within : ℕ → Option ℕ → ℕ → Type 0
Within least None k = (least ≤ k) × Unit {0}
Within least (Some most) k = (least ≤ k) × (k ≤ most)

pub allows_within : (q : Quantifier) (k : ℕ) → Allows q k → Within (least_of q) (most_of q) k
allows_within Once k a = (omega arith, omega arith)
allows_within Optional k a = (omega arith, omega arith)
allows_within AnyNumber k a = (omega arith, tt)
allows_within OneOrMore k a = (a, tt)
allows_within (Exactly n) k a = (omega arith, omega arith)
allows_within (AtLeast n) k a = (a, tt)
allows_within (Between n m) k a = a

pub within_allows : (q : Quantifier) (k : ℕ) → Within (least_of q) (most_of q) k → Allows q k
within_allows Once k a = omega arith
within_allows Optional k a = a.1
within_allows AnyNumber k a = tt
within_allows OneOrMore k a = a.0
within_allows (Exactly n) k a = omega arith
within_allows (AtLeast n) k a = a.0
within_allows (Between n m) k a = a

-- n items, one after the other
abbrev pub iterate : ℕ → (Plan → Plan) → Plan → Plan
iterate zero item rest = rest
iterate (suc n) item rest = item (iterate n item rest)

-- an item, repeated as the bounds say
abbrev pub repeated : (Bool → Bool → Plan → Plan) → ℕ → Option ℕ → Plan → Plan
repeated item least (Some most) rest = iterate least (item false false) (iterate (most - least) (item true false) rest)
repeated item zero None rest = item true true rest
repeated item (suc n) None rest = iterate n (item false false) (item false true rest)

-- two parts, regrouped
pub both_left : (P Q R : List ℕ → Type 0) (w : List ℕ) → IsBoth P (IsBoth Q R) w → IsBoth (IsBoth P Q) R w
both_left P Q R w (u, v, e, a, (v1, v2, e2, p, q)) = (u ++ v1, v2, (e ∙ ap (λ y. u ++ y) e2 ∙ sym (append_assoc u v1 v2)), (u, v1, refl, a, p), q)

pub both_right : (P Q R : List ℕ → Type 0) (w : List ℕ) → IsBoth (IsBoth P Q) R w → IsBoth P (IsBoth Q R) w
both_right P Q R w (u, v, e, (u1, v1, e1, a, p), q) = (u1, v1 ++ v, (e ∙ ap (λ y. y ++ v) e1 ∙ append_assoc u1 v1 v), a, (v1, v, refl, p, q))

pub both_map : (P Q P2 Q2 : List ℕ → Type 0) (w : List ℕ) → ((u : List ℕ) → P u → P2 u) → ((u : List ℕ) → Q u → Q2 u) → IsBoth P Q w → IsBoth P2 Q2 w
both_map P Q P2 Q2 w f g (u, v, e, p, q) = (u, v, e, f u p, g v q)

pub nil_both : (P : List ℕ → Type 0) (w : List ℕ) → P w → IsBoth (λ u. u ≡ []) P w
nil_both P w p = ([], w, refl, refl, p)

pub both_nil : (P : List ℕ → Type 0) (w : List ℕ) → IsBoth (λ u. u ≡ []) P w → P w
both_nil P w (u, v, e, z, p) = let h : w ≡ v = e ∙ ap (λ y. y ++ v) z in subst P (sym h) p

-- a and then b parts are a + b parts
pub repeats_add : (L : List ℕ → Type 0) (a b : ℕ) (w : List ℕ) → IsBoth (Repeats L a) (Repeats L b) w → Repeats L (a + b) w
repeats_add L zero b w h = subst (λ n. Repeats L n w) (sym (zero-add b)) (both_nil (Repeats L b) w h)
repeats_add L (suc a) b w h =
    let x = both_right L (Repeats L a) (Repeats L b) w h in
    let y : Repeats L (suc (a + b)) w = (x.0, x.1, x.2, x.3, repeats_add L a b x.1 x.4) in
    let e : suc (a + b) ≡ suc a + b = omega arith in
    subst (λ n. Repeats L n w) e y

pub repeats_split : (L : List ℕ → Type 0) (a b : ℕ) (w : List ℕ) → Repeats L (a + b) w → IsBoth (Repeats L a) (Repeats L b) w
repeats_split L zero b w h = nil_both (Repeats L b) w (subst (λ n. Repeats L n w) (zero-add b) h)
repeats_split L (suc a) b w h =
    let e : suc a + b ≡ suc (a + b) = omega arith in
    let y : Repeats L (suc (a + b)) w = subst (λ n. Repeats L n w) e h in
    both_left L (Repeats L a) (Repeats L b) w (y.0, y.1, y.2, y.3, repeats_split L a b y.1 y.4)

-- up to n parts
abbrev pub UpTo : (List ℕ → Type 0) → ℕ → List ℕ → Type 0
UpTo L n w = (k : ℕ) × (k ≤ n) × Repeats L k w

-- a number of parts within bounds
abbrev pub Bounded : (List ℕ → Type 0) → ℕ → Option ℕ → List ℕ → Type 0
Bounded L least most w = (k : ℕ) × Within least most k × Repeats L k w

module _ (Takes : ℕ → ℕ → Type 0) where
  -- an item is a plan with two flags whose part is L
  abbrev pub ItemHolds : (Bool → Bool → Plan → Plan) → (List ℕ → Type 0) → Type 0
  ItemHolds item L = (o r : Bool) (rest : Plan) (w : List ℕ) → PlanLang Takes (item o r rest) w ↔ IsBoth (Flagged o r L) (PlanLang Takes rest) w

  iterate_exact : (item : Bool → Bool → Plan → Plan) (L : List ℕ → Type 0) → ItemHolds item L → (n : ℕ) (rest : Plan) (w : List ℕ)
      → PlanLang Takes (iterate n (item false false) rest) w ↔ IsBoth (Repeats L n) (PlanLang Takes rest) w
  iterate_exact item L h zero rest w = (λ x. nil_both (PlanLang Takes rest) w x, λ x. both_nil (PlanLang Takes rest) w x)
  iterate_exact item L h (suc n) rest w = (
    λ x. both_left L (Repeats L n) (PlanLang Takes rest) w
        (both_map L (PlanLang Takes (iterate n (item false false) rest)) L (IsBoth (Repeats L n) (PlanLang Takes rest)) w
        (λ u y. y) (λ u y. (iterate_exact item L h n rest u).0 y) ((h false false (iterate n (item false false) rest) w).0 x)),
    λ x. (h false false (iterate n (item false false) rest) w).1
        (both_map L (IsBoth (Repeats L n) (PlanLang Takes rest)) L (PlanLang Takes (iterate n (item false false) rest)) w
        (λ u y. y) (λ u y. (iterate_exact item L h n rest u).1 y) (both_right L (Repeats L n) (PlanLang Takes rest) w x)),
  )

  up_to_more : (L : List ℕ → Type 0) (n : ℕ) (w : List ℕ) → IsBoth (Flagged true false L) (UpTo L n) w → UpTo L (suc n) w
  up_to_more L n w (u, v, e, inl z, (k, b, r)) = let h : w ≡ v = e ∙ ap (λ y. y ++ v) z in (k, omega arith, subst (Repeats L k) (sym h) r)
  up_to_more L n w (u, v, e, inr p, (k, b, r)) = (suc k, omega arith, (u, v, e, p, r))

  up_to_less : (L : List ℕ → Type 0) (n : ℕ) (w : List ℕ) → UpTo L (suc n) w → IsBoth (Flagged true false L) (UpTo L n) w
  up_to_less L n w (zero, b, r) = ([], w, refl, inl refl, (0, omega arith, r))
  up_to_less L n w (suc k, b, (u, v, e, p, r)) = (u, v, e, inr p, (k, omega arith, r))

  iterate_optional : (item : Bool → Bool → Plan → Plan) (L : List ℕ → Type 0) → ItemHolds item L → (n : ℕ) (rest : Plan) (w : List ℕ)
      → PlanLang Takes (iterate n (item true false) rest) w ↔ IsBoth (UpTo L n) (PlanLang Takes rest) w
  iterate_optional item L h zero rest w = (
    λ x. ([], w, refl, (0, omega arith, refl), x),
    λ x. both_nil (PlanLang Takes rest) w (both_map (UpTo L 0) (PlanLang Takes rest) (λ u. u ≡ []) (PlanLang Takes rest) w (λ u y. none u y) (λ u y. y) x),
  )
    where
      none : (u : List ℕ) → UpTo L 0 u → u ≡ []
      none u (zero, b, r) = r
      none u (suc k, b, r) = absurd (omega arith)
  iterate_optional item L h (suc n) rest w = (
    λ x. both_map (IsBoth F (UpTo L n)) (PlanLang Takes rest) (UpTo L (suc n)) (PlanLang Takes rest) w (λ u y. up_to_more L n u y) (λ u y. y)
        (both_left F (UpTo L n) (PlanLang Takes rest) w
        (both_map F (PlanLang Takes (iterate n (item true false) rest)) F (IsBoth (UpTo L n) (PlanLang Takes rest)) w
        (λ u y. y) (λ u y. (iterate_optional item L h n rest u).0 y) ((h true false (iterate n (item true false) rest) w).0 x))),
    λ x. (h true false (iterate n (item true false) rest) w).1
        (both_map F (IsBoth (UpTo L n) (PlanLang Takes rest)) F (PlanLang Takes (iterate n (item true false) rest)) w
        (λ u y. y) (λ u y. (iterate_optional item L h n rest u).1 y)
        (both_right F (UpTo L n) (PlanLang Takes rest) w
        (both_map (UpTo L (suc n)) (PlanLang Takes rest) (IsBoth F (UpTo L n)) (PlanLang Takes rest) w (λ u y. up_to_less L n u y) (λ u y. y) x))),
  )
    where
      F : List ℕ → Type 0
      F = Flagged true false L

  -- repeated as the bounds say, which do not fall
  abbrev pub DoNotFall : ℕ → Option ℕ → Type 0
  DoNotFall least None = Unit {0}
  DoNotFall least (Some most) = least ≤ most

  pub repeated_holds : (item : Bool → Bool → Plan → Plan) (L : List ℕ → Type 0) → ItemHolds item L → (least : ℕ) (most : Option ℕ) (rest : Plan) (w : List ℕ)
      → DoNotFall least most → PlanLang Takes (repeated item least most rest) w ↔ IsBoth (Bounded L least most) (PlanLang Takes rest) w
  repeated_holds item L h zero None rest w d = (
    λ x. both_map (Star L) R (Bounded L zero None) R w (λ u y. (y.0, (omega arith, tt), y.1)) (λ u y. y) ((h true true rest w).0 x),
    λ x. (h true true rest w).1 (both_map (Bounded L zero None) R (Star L) R w (λ u y. (y.0, y.2)) (λ u y. y) x),
  )
    where
      R : List ℕ → Type 0
      R = PlanLang Takes rest
  repeated_holds item L h (suc n) None rest w d = (
    λ x. both_map (IsBoth (Repeats L n) (Flagged false true L)) R (Bounded L (suc n) None) R w (λ u y. join u y) (λ u y. y)
        (both_left (Repeats L n) (Flagged false true L) R w
        (both_map (Repeats L n) (PlanLang Takes (item false true rest)) (Repeats L n) (IsBoth (Flagged false true L) R) w
        (λ u y. y) (λ u y. (h false true rest u).0 y) ((iterate_exact item L h n (item false true rest) w).0 x))),
    λ x. (iterate_exact item L h n (item false true rest) w).1
        (both_map (Repeats L n) (IsBoth (Flagged false true L) R) (Repeats L n) (PlanLang Takes (item false true rest)) w
        (λ u y. y) (λ u y. (h false true rest u).1 y)
        (both_right (Repeats L n) (Flagged false true L) R w
        (both_map (Bounded L (suc n) None) R (IsBoth (Repeats L n) (Flagged false true L)) R w (λ u y. part u y) (λ u y. y) x))),
  )
    where
      R : List ℕ → Type 0
      R = PlanLang Takes rest

      join : (u : List ℕ) → IsBoth (Repeats L n) (Flagged false true L) u → Bounded L (suc n) None u
      join u (a, b, e, p, (k, q)) = (n + suc k, (omega arith, tt), repeats_add L n (suc k) u (a, b, e, p, q))

      part : (u : List ℕ) → Bounded L (suc n) None u → IsBoth (Repeats L n) (Flagged false true L) u
      part u (k, b, r) =
          let e : k ≡ n + suc (k - suc n) = omega arith in
          let x = repeats_split L n (suc (k - suc n)) u (subst (λ j. Repeats L j u) e r) in
          (x.0, x.1, x.2, x.3, (k - suc n, x.4))
  repeated_holds item L h least (Some most) rest w d = (
    λ x. both_map (IsBoth (Repeats L least) (UpTo L (most - least))) R (Bounded L least (Some most)) R w (λ u y. join u y) (λ u y. y)
        (both_left (Repeats L least) (UpTo L (most - least)) R w
        (both_map (Repeats L least) (PlanLang Takes (iterate (most - least) (item true false) rest)) (Repeats L least) (IsBoth (UpTo L (most - least)) R) w
        (λ u y. y) (λ u y. (iterate_optional item L h (most - least) rest u).0 y) ((iterate_exact item L h least (iterate (most - least) (item true false) rest) w).0 x))),
    λ x. (iterate_exact item L h least (iterate (most - least) (item true false) rest) w).1
        (both_map (Repeats L least) (IsBoth (UpTo L (most - least)) R) (Repeats L least) (PlanLang Takes (iterate (most - least) (item true false) rest)) w
        (λ u y. y) (λ u y. (iterate_optional item L h (most - least) rest u).1 y)
        (both_right (Repeats L least) (UpTo L (most - least)) R w
        (both_map (Bounded L least (Some most)) R (IsBoth (Repeats L least) (UpTo L (most - least))) R w (λ u y. part u y) (λ u y. y) x))),
  )
    where
      R : List ℕ → Type 0
      R = PlanLang Takes rest

      join : (u : List ℕ) → IsBoth (Repeats L least) (UpTo L (most - least)) u → Bounded L least (Some most) u
      join u (a, b, e, p, (k, c, q)) = (least + k, (omega arith, omega arith), repeats_add L least k u (a, b, e, p, q))

      part : (u : List ℕ) → Bounded L least (Some most) u → IsBoth (Repeats L least) (UpTo L (most - least)) u
      part u (k, b, r) =
          let e : k ≡ least + (k - least) = omega arith in
          let x = repeats_split L least (k - least) u (subst (λ j. Repeats L j u) e r) in
          (x.0, x.1, x.2, x.3, (k - least, omega arith, x.4))

pub quantified_bounded : (L : List ℕ → Type 0) (q : Quantifier) (w : List ℕ) → IsQuantified L q w ↔ Bounded L (least_of q) (most_of q) w
quantified_bounded L q w = (λ x. (x.0, allows_within q x.0 x.1, x.2), λ x. (x.0, within_allows q x.0 x.1, x.2))

pub quantifier_bounds : (Takes : ℕ → ℕ → Type 0) (q : Quantifier) → IsQuantifier q → DoNotFall Takes (least_of q) (most_of q)
quantifier_bounds Takes Once v = omega arith
quantifier_bounds Takes Optional v = omega arith
quantifier_bounds Takes AnyNumber v = tt
quantifier_bounds Takes OneOrMore v = tt
quantifier_bounds Takes (Exactly n) v = omega arith
quantifier_bounds Takes (AtLeast n) v = tt
quantifier_bounds Takes (Between n m) v = v.2

-- how many copies of a piece are kept under bounds
abbrev pub copies_of : ℕ → Option ℕ → ℕ
copies_of least None = max least 1
copies_of least (Some most) = most

pub copies_bounds : (q : Quantifier) → copies q ≡ copies_of (least_of q) (most_of q)
copies_bounds Once = refl
copies_bounds Optional = refl
copies_bounds AnyNumber = refl
copies_bounds OneOrMore = refl
copies_bounds (Exactly n) = refl
copies_bounds (AtLeast n) = refl
copies_bounds (Between n m) = refl

pub repeats_map : (L M : List ℕ → Type 0) (f : (u : List ℕ) → L u → M u) (k : ℕ) (w : List ℕ) → Repeats L k w → Repeats M k w
repeats_map L M f zero w r = r
repeats_map L M f (suc k) w (u, v, e, p, r) = (u, v, e, f u p, repeats_map L M f k v r)

-- parts that are all empty
pub repeats_empty : (L : List ℕ → Type 0) → ((u : List ℕ) → L u → u ≡ []) → (k : ℕ) (w : List ℕ) → Repeats L k w → w ≡ []
repeats_empty L f zero w r = r
repeats_empty L f (suc k) w (u, v, e, p, r) = e ∙ ap (λ y. y ++ v) (f u p) ∙ repeats_empty L f k v r

pub empty_repeats : (L : List ℕ → Type 0) → L [] → (k : ℕ) → Repeats L k []
empty_repeats L p zero = refl
empty_repeats L p (suc k) = ([], [], refl, p, empty_repeats L p k)

-- a pattern without positions matches the empty word alone
product_zero : (a b : ℕ) → a * b ≡ 0 → (a ≡ 0) ⊎ (b ≡ 0)
product_zero zero b e = inl refl
product_zero (suc a) zero e = inr refl
product_zero (suc a) (suc b) e = absurd (omega arith)

abbrev pub IsEmptyWord : List ℕ → Type 0
IsEmptyWord w = w ≡ []

bounded_none : (L : List ℕ → Type 0) (least : ℕ) (most : Option ℕ) (n : ℕ) → ((n ≡ 0) → (u : List ℕ) → L u ↔ IsEmptyWord u)
    → n * copies_of least most ≡ 0 → (DoNotFall (λ _ _. Unit {0}) least most) → (w : List ℕ) → Bounded L least most w ↔ IsEmptyWord w
bounded_none L least None n h e d w = choose (product_zero n (max least 1) e)
  where
    choose : (n ≡ 0) ⊎ (max least 1 ≡ 0) → Bounded L least None w ↔ IsEmptyWord w
    choose (inl z) = (λ x. repeats_empty L (λ u p. (h z u).0 p) x.0 w x.2, λ x. subst (Bounded L least None) (sym x) (least, (omega arith, tt), empty_repeats L ((h z []).1 refl) least))
    choose (inr z) = absurd (omega arith)
bounded_none L least (Some most) n h e d w = choose (product_zero n most e)
  where
    choose : (n ≡ 0) ⊎ (most ≡ 0) → Bounded L least (Some most) w ↔ IsEmptyWord w
    choose (inl z) = (λ x. repeats_empty L (λ u p. (h z u).0 p) x.0 w x.2, λ x. subst (Bounded L least (Some most)) (sym x) (least, (omega arith, d), empty_repeats L ((h z []).1 refl) least))
    choose (inr z) = (
      λ x. let k : x.0 ≡ 0 = omega arith in subst (λ j. Repeats L j w) k x.2,
      λ x. subst (Bounded L least (Some most)) (sym x) (0, (omega arith, omega arith), refl),
    )

both_none : (P Q : List ℕ → Type 0) → ((u : List ℕ) → P u ↔ IsEmptyWord u) → ((u : List ℕ) → Q u ↔ IsEmptyWord u) → (w : List ℕ) → IsBoth P Q w ↔ IsEmptyWord w
both_none P Q f g w =
    (λ x. x.2 ∙ ap (λ y. y ++ x.1) ((f x.0).0 x.3) ∙ (g x.1).0 x.4, λ x. ([], [], x, (f []).1 refl, (g []).1 refl))

pub iff_both : {A B C : Type 0} → A ↔ B → B ↔ C → A ↔ C
iff_both f g = (λ x. g.0 (f.0 x), λ x. f.1 (g.1 x))

sum_zero_left : (a b : ℕ) → a + b ≡ 0 → a ≡ 0
sum_zero_left a b e = omega arith

sum_zero_right : (a b : ℕ) → a + b ≡ 0 → b ≡ 0
sum_zero_right a b e = omega arith

pub no_positions : (t : Expression) → IsExpression t → positions t ≡ 0 → (w : List ℕ) → Lang t w ↔ IsEmptyWord w
no_positions Empty v e w = (λ x. x, λ x. x)
no_positions (Piece a q r) v e w =
    both_none (IsQuantified (IsOneOf a) q) (Lang r)
    (λ u. iff_both (quantified_bounded (IsOneOf a) q u)
    (bounded_none (IsOneOf a) (least_of q) (most_of q) 1 (λ z. absurd (omega arith))
    (let c = copies_bounds q in let z = sum_zero_left (copies q) (positions r) e in omega arith) (quantifier_bounds (λ _ _. Unit {0}) q v.1) u))
    (no_positions r v.3 (sum_zero_right (copies q) (positions r) e)) w
no_positions (Group p q r) v e w =
    both_none (IsQuantified (Lang p) q) (Lang r)
    (λ u. iff_both (quantified_bounded (Lang p) q u)
    (bounded_none (Lang p) (least_of q) (most_of q) (positions p) (λ z. no_positions p v.0 z)
    (ap (λ c. positions p * c) (sym (copies_bounds q)) ∙ sum_zero_left (positions p * copies q) (positions r) e) (quantifier_bounds (λ _ _. Unit {0}) q v.1) u))
    (no_positions r v.3 (sum_zero_right (positions p * copies q) (positions r) e)) w
no_positions (Choice b r) v e w =
    let f = no_positions b v.1 (sum_zero_left (positions b) (positions r) e) w in
    let g = no_positions r v.2 (sum_zero_right (positions b) (positions r) e) w in
    (λ x. ⊎_elim f.0 g.0 x, λ x. inl (f.1 x))

-- the most positions of a pattern
abbrev pub limit : ℕ
limit = 65536

-- a piece of n positions under bounds: left out where nothing is kept of it, as it is where too much would be
abbrev pub piece : (Bool → Bool → Plan → Plan) → ℕ → ℕ → Option ℕ → Plan → Plan
piece item n least most rest =
    cond (n * copies_of least most == 0) rest (cond (nat_lt limit (n * copies_of least most)) (item false false rest) (repeated item least most rest))

pub piece_holds : (Takes : ℕ → ℕ → Type 0) (item : Bool → Bool → Plan → Plan) (L : List ℕ → Type 0) (n : ℕ) (q : Quantifier) (rest : Plan)
    → IsQuantifier q → n * copies q ≤ limit → (n ≡ 0 → (u : List ℕ) → L u ↔ IsEmptyWord u)
    → (n * copies q ≢ 0 → ItemHolds Takes item L)
    → (w : List ℕ) → PlanLang Takes (piece item n (least_of q) (most_of q) rest) w ↔ IsBoth (IsQuantified L q) (PlanLang Takes rest) w
piece_holds Takes item L n q rest v m z h w = choose (n * copies_of (least_of q) (most_of q) == 0) (nat_lt limit (n * copies_of (least_of q) (most_of q))) refl refl
  where
    c : n * copies q ≡ n * copies_of (least_of q) (most_of q)
    c = ap (λ x. n * x) (copies_bounds q)

    Q : List ℕ → Type 0
    Q = Bounded L (least_of q) (most_of q)

    to_quantified : (w : List ℕ) → IsBoth Q (PlanLang Takes rest) w ↔ IsBoth (IsQuantified L q) (PlanLang Takes rest) w
    to_quantified w = (
      λ x. both_map Q (PlanLang Takes rest) (IsQuantified L q) (PlanLang Takes rest) w (λ u y. (quantified_bounded L q u).1 y) (λ u y. y) x,
      λ x. both_map (IsQuantified L q) (PlanLang Takes rest) Q (PlanLang Takes rest) w (λ u y. (quantified_bounded L q u).0 y) (λ u y. y) x,
    )

    choose : (none much : Bool) → (n * copies_of (least_of q) (most_of q) == 0) ≡ none → nat_lt limit (n * copies_of (least_of q) (most_of q)) ≡ much
        → PlanLang Takes (cond none rest (cond much (item false false rest) (repeated item (least_of q) (most_of q) rest))) w ↔ IsBoth (IsQuantified L q) (PlanLang Takes rest) w
    choose true much e f =
        let e0 : n * copies_of (least_of q) (most_of q) ≡ 0 = eqb-true (n * copies_of (least_of q) (most_of q)) 0 e in
        let b = bounded_none L (least_of q) (most_of q) n z e0 (quantifier_bounds (λ _ _. Unit {0}) q v) in
        iff_both (
          λ x. both_map (λ u. u ≡ []) (PlanLang Takes rest) Q (PlanLang Takes rest) w (λ u y. (b u).1 y) (λ u y. y) (nil_both (PlanLang Takes rest) w x),
          λ x. both_nil (PlanLang Takes rest) w (both_map Q (PlanLang Takes rest) (λ u. u ≡ []) (PlanLang Takes rest) w (λ u y. (b u).0 y) (λ u y. y) x),
        )
        (to_quantified w)
    choose false true e f = absurd (let m2 : n * copies_of (least_of q) (most_of q) ≤ limit = subst (λ x. x ≤ limit) c m in let g : limit < n * copies_of (least_of q) (most_of q) = ltb-true limit (n * copies_of (least_of q) (most_of q)) f in omega arith)
    choose false false e f =
        let g : n * copies q ≢ 0 = λ y. eqb-false (n * copies_of (least_of q) (most_of q)) 0 e (sym c ∙ y) in
        iff_both (repeated_holds Takes item L (h g) (least_of q) (most_of q) rest w (quantifier_bounds Takes q v)) (to_quantified w)
