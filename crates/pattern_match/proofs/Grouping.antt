-- The plan of a group: without marks where it has one item, and without its empty branches.
use Rattle.std.proofs.Common.{◌≡◌, ℕ, ◌⊎◌, ◌↔◌, inl, inr, Bool, true, false, ◌||◌, cond, List, [], refl, ⊎_elim}
use Rattle.pattern_match.specs.Language.{IsBoth}
use Rattle.pattern_match.specs.inner.Plan.{Plan, Nothing, One, Many, Either, Flagged, IsTakenAt, PlanLang, IsOneBranch, IsPlan}
use Rattle.pattern_match.proofs.Planning.{iff_both, both_map}
use Rattle.pattern_match.proofs.Flags.{compose, flagged_both, both_nothing}

-- no instructions
abbrev pub is_nothing : Plan → Bool
is_nothing Nothing = true
is_nothing (One at o r rest) = false
is_nothing (Many inner o r rest) = false
is_nothing (Either branch rest) = false

-- one item
abbrev pub single : Plan → Bool
single Nothing = false
single (One at o r rest) = is_nothing rest
single (Many inner o r rest) = is_nothing rest
single (Either branch rest) = false

-- the item that stands first, with these flags too
abbrev pub merged : Bool → Bool → Plan → Plan → Plan
merged o r Nothing rest = rest
merged o r (One at e s x) rest = One at (o || e) (r || s) rest
merged o r (Many inner e s x) rest = Many inner (o || e) (r || s) rest
merged o r (Either branch x) rest = rest

-- a group of the plan, which may be left out or not
abbrev pub group : Plan → Bool → Bool → Bool → Plan → Plan
group inner empty o r rest = cond (single inner) (merged o r (merged empty false inner Nothing) rest) (Many inner (o || empty) (r || false) rest)

-- branches without the empty ones
abbrev pub branches : Plan → Plan → Plan
branches p q = cond (is_nothing p) q (cond (is_nothing q) p (Either p q))

pub single_merged : (o r : Bool) (p : Plan) → single p ≡ true → single (merged o r p Nothing) ≡ true
single_merged o r Nothing h = absurd (cc)
single_merged o r (One at e s x) h = refl
single_merged o r (Many inner e s x) h = refl
single_merged o r (Either branch x) h = absurd (cc)

merged_some : (o r : Bool) (p rest : Plan) → single p ≡ true → is_nothing (merged o r p rest) ≡ false
merged_some o r Nothing rest h = absurd (cc)
merged_some o r (One at e s x) rest h = refl
merged_some o r (Many inner e s x) rest h = refl
merged_some o r (Either branch x) rest h = absurd (cc)

pub group_some : (inner : Plan) (empty o r : Bool) (rest : Plan) → is_nothing (group inner empty o r rest) ≡ false
group_some inner empty o r rest = choose (single inner) refl
  where
    choose : (b : Bool) → single inner ≡ b → is_nothing (cond b (merged o r (merged empty false inner Nothing) rest) (Many inner (o || empty) (r || false) rest)) ≡ false
    choose true h = merged_some o r (merged empty false inner Nothing) rest (single_merged empty false inner h)
    choose false h = refl

-- both are plans, where the inner one is
merged_plan : (o r : Bool) (p rest : Plan) → single p ≡ true → IsPlan p → IsOneBranch rest → IsPlan rest → IsPlan (merged o r p rest) × IsOneBranch (merged o r p rest)
merged_plan o r Nothing rest h v b i = absurd (cc)
merged_plan o r (One at e s x) rest h v b i = ((b, i), tt)
merged_plan o r (Many inner e s x) rest h v b i = ((v.0, b, i), tt)
merged_plan o r (Either branch x) rest h v b i = absurd (cc)

pub group_plan : (inner : Plan) (empty : Bool) → IsPlan inner → (o r : Bool) (rest : Plan) → IsOneBranch rest → IsPlan rest
    → IsPlan (group inner empty o r rest) × IsOneBranch (group inner empty o r rest)
group_plan inner empty v o r rest b i = choose (single inner) refl
  where
    choose : (x : Bool) → single inner ≡ x → IsPlan (cond x (merged o r (merged empty false inner Nothing) rest) (Many inner (o || empty) (r || false) rest))
        × IsOneBranch (cond x (merged o r (merged empty false inner Nothing) rest) (Many inner (o || empty) (r || false) rest))
    choose true h = merged_plan o r (merged empty false inner Nothing) rest (single_merged empty false inner h) (merged_plan empty false inner Nothing h v tt tt).0 b i
    choose false h = ((v, b, i), tt)

pub branches_plan : (p q : Plan) → IsOneBranch p → IsPlan p → IsPlan q → IsPlan (branches p q)
branches_plan p q b i j = choose (is_nothing p) (is_nothing q)
  where
    choose : (x y : Bool) → IsPlan (cond x q (cond y p (Either p q)))
    choose true y = j
    choose false true = i
    choose false false = (b, i, j)

module _ (Takes : ℕ → ℕ → Type 0) where
  nothing_lang : (p : Plan) (w : List ℕ) → is_nothing p ≡ true → PlanLang Takes p w ↔ (w ≡ [])
  nothing_lang Nothing w h = (λ x. x, λ x. x)
  nothing_lang (One at o r rest) w h = absurd (cc)
  nothing_lang (Many inner o r rest) w h = absurd (cc)
  nothing_lang (Either branch rest) w h = absurd (cc)

  -- an item of a part L by itself, with more flags
  item_lang : (L : List ℕ → Type 0) (o r e s : Bool) (x rest : Plan) (w : List ℕ) → is_nothing x ≡ true
      → IsBoth (Flagged (o || e) (r || s) L) (PlanLang Takes rest) w ↔ IsBoth (Flagged o r (IsBoth (Flagged e s L) (PlanLang Takes x))) (PlanLang Takes rest) w
  item_lang L o r e s (One at a b c) rest w h = absurd (cc)
  item_lang L o r e s (Many i a b c) rest w h = absurd (cc)
  item_lang L o r e s (Either a b) rest w h = absurd (cc)
  item_lang L o r e s Nothing rest w h =
      iff_both (
        λ x. both_map (Flagged (o || e) (r || s) L) R (Flagged o r (Flagged e s L)) R w (λ u y. (compose o r e s L u).1 y) (λ u y. y) x,
        λ x. both_map (Flagged o r (Flagged e s L)) R (Flagged (o || e) (r || s) L) R w (λ u y. (compose o r e s L u).0 y) (λ u y. y) x,
      )
      (flagged_both o r (Flagged e s L) (IsBoth (Flagged e s L) (λ u. u ≡ [])) R (λ u. let b = both_nothing (Flagged e s L) u in (b.1, b.0)) w)
    where
      R : List ℕ → Type 0
      R = PlanLang Takes rest

  merged_lang : (o r : Bool) (p rest : Plan) (w : List ℕ) → single p ≡ true
      → PlanLang Takes (merged o r p rest) w ↔ IsBoth (Flagged o r (PlanLang Takes p)) (PlanLang Takes rest) w
  merged_lang o r Nothing rest w h = absurd (cc)
  merged_lang o r (One at e s x) rest w h = item_lang (IsTakenAt Takes at) o r e s x rest w h
  merged_lang o r (Many inner e s x) rest w h = item_lang (PlanLang Takes inner) o r e s x rest w h
  merged_lang o r (Either branch x) rest w h = absurd (cc)

  pub group_lang : (inner : Plan) (empty o r : Bool) (rest : Plan) (w : List ℕ)
      → PlanLang Takes (group inner empty o r rest) w ↔ IsBoth (Flagged o r (Flagged empty false (PlanLang Takes inner))) (PlanLang Takes rest) w
  group_lang inner empty o r rest w = choose (single inner) refl
    where
      R : List ℕ → Type 0
      R = PlanLang Takes rest

      L : List ℕ → Type 0
      L = PlanLang Takes inner

      choose : (b : Bool) → single inner ≡ b
          → PlanLang Takes (cond b (merged o r (merged empty false inner Nothing) rest) (Many inner (o || empty) (r || false) rest)) w
          ↔ IsBoth (Flagged o r (Flagged empty false L)) R w
      choose true h =
          iff_both (merged_lang o r (merged empty false inner Nothing) rest w (single_merged empty false inner h))
          (flagged_both o r (PlanLang Takes (merged empty false inner Nothing)) (Flagged empty false L) R
          (λ u. iff_both (merged_lang empty false inner Nothing u h) (both_nothing (Flagged empty false L) u)) w)
      choose false h = (
        λ x. both_map (Flagged (o || empty) (r || false) L) R (Flagged o r (Flagged empty false L)) R w (λ u y. (compose o r empty false L u).1 y) (λ u y. y) x,
        λ x. both_map (Flagged o r (Flagged empty false L)) R (Flagged (o || empty) (r || false) L) R w (λ u y. (compose o r empty false L u).0 y) (λ u y. y) x,
      )

  part_in : (g : Bool) (L : List ℕ → Type 0) (w : List ℕ) → L w → Flagged g false L w
  part_in false L w p = p
  part_in true L w p = inr p

  part_out : (g : Bool) (L : List ℕ → Type 0) (w : List ℕ) → Flagged g false L w → (w ≡ []) ⊎ L w
  part_out false L w p = inr p
  part_out true L w p = p

  pub branches_lang : (p q : Plan) (g : Bool) (B R : List ℕ → Type 0) (w : List ℕ) → (PlanLang Takes p w ↔ B w) → (Flagged g false (PlanLang Takes q) w ↔ R w)
      → Flagged (is_nothing p || (is_nothing q || g)) false (PlanLang Takes (branches p q)) w ↔ (B w ⊎ R w)
  branches_lang p q g B R w f h = choose (is_nothing p) (is_nothing q) refl refl
    where
      P : List ℕ → Type 0
      P = PlanLang Takes p

      Q : List ℕ → Type 0
      Q = PlanLang Takes q

      both : (g : Bool) → (Flagged g false Q w ↔ R w) → Flagged g false (PlanLang Takes (Either p q)) w ↔ (B w ⊎ R w)
      both false h = (λ x. ⊎_elim (λ y. inl (f.0 y)) (λ y. inr (h.0 y)) x, λ x. ⊎_elim (λ y. inl (f.1 y)) (λ y. inr (h.1 y)) x)
      both true h = (
        λ x. ⊎_elim (λ z. inr (h.0 (inl z))) (λ x. ⊎_elim (λ y. inl (f.0 y)) (λ y. inr (h.0 (inr y))) x) x,
        λ x. ⊎_elim (λ y. inr (inl (f.1 y))) (λ y. ⊎_elim (λ z. inl z) (λ z. inr (inr z)) (h.1 y)) x,
      )

      choose : (x y : Bool) → is_nothing p ≡ x → is_nothing q ≡ y
          → Flagged (x || (y || g)) false (PlanLang Takes (cond x q (cond y p (Either p q)))) w ↔ (B w ⊎ R w)
      choose true y i j = (
        λ x. ⊎_elim (λ z. inl (f.0 ((nothing_lang p w i).1 z))) (λ z. inr (h.0 (part_in g Q w z))) x,
        λ x. ⊎_elim (λ z. inl ((nothing_lang p w i).0 (f.1 z))) (λ z. part_out g Q w (h.1 z)) x,
      )
      choose false true i j = (
        λ x. ⊎_elim (λ z. inr (h.0 (part_in g Q w ((nothing_lang q w j).1 z)))) (λ z. inl (f.0 z)) x,
        λ x. ⊎_elim (λ z. inr (f.1 z)) (λ z. ⊎_elim (λ y. inl y) (λ y. inl ((nothing_lang q w j).0 y)) (part_out g Q w (h.1 z))) x,
      )
      choose false false i j = both g h
