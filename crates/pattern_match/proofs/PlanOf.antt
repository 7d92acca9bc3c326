-- The plan of a syntax tree whose tokens stand from a place on, and that it has the tree's words.
use Rattle.std.proofs.Common.{◌≡◌, ◌≢◌, ℕ, zero, suc, ◌+◌, ◌-◌, ◌*◌, ◌≤◌, ◌↔◌, Bool, true, false, cond, ◌||◌, ◌==◌, nat_lt, IsTrue, Option, Some, None, List, ◌∷◌, drop, refl, sym, ap, ap₂, ◌∙◌, subst, arith, mul-zero, eqb-true, add-zero, drop-drop, le_trans, le-add_right, le-add_left, le-mul_of_pos_right, zero-lt-suc}
use Rattle.std.proofs.lemmas.Bool.{eqb-false, ne_eqb}
use Rattle.pattern_match.specs.Expression.{Atom, Quantifier, Expression, Empty, Piece, Group, Choice}
use Rattle.pattern_match.specs.Valid.{IsAtom, IsBranch, IsExpression}
use Rattle.pattern_match.specs.Positions.{copies, positions}
use Rattle.pattern_match.specs.Language.{IsBoth, IsQuantified, IsOneOf, Lang}
use Rattle.pattern_match.specs.inner.Plan.{Plan, Nothing, One, Either, Flagged, IsTakenAt, PlanLang}
use Rattle.pattern_match.specs.Token.{admits, first_admits}
use Rattle.pattern_match.specs.declared.token.Token.{Token}
use Rattle.pattern_match.specs.declared.token.Token.TheVariants.{Open as OpenToken, Close as CloseToken, Bar as BarToken}
use Rattle.pattern_match.proofs.Planning.{least_of, most_of, copies_of, copies_bounds, iterate, repeated, piece, piece_holds, limit, both_map, no_positions, iff_both}
use Rattle.pattern_match.proofs.Flags.{flagged_both}
use Rattle.pattern_match.proofs.Grouping.{is_nothing, group, group_some, group_lang, branches, branches_lang}
use Rattle.pattern_match.proofs.Tokens.{atom_tokens_then, quantifier_tokens_then, tokens_then, atom_width, quantifier_width, width, BeginsNoMember, quantifier_no_member, tokens_no_member, atom_true, atom_rest, quantifier_rest, tokens_rest}

-- whether some branch of two or more has no positions
abbrev pub gap : Expression → Bool
gap Empty = false
gap (Piece a q r) = false
gap (Group p q r) = false
gap (Choice b r) = (positions b == 0) || ((positions r == 0) || gap r)

-- the plan of a tree whose first token has the number k
abbrev pub plan : Expression → ℕ → Plan
plan Empty k = Nothing
plan (Piece a q r) k = piece (One k) 1 (least_of q) (most_of q) (plan r (k + (atom_width a + quantifier_width q)))
plan (Group p q r) k = piece (group (plan p (suc k)) (gap p)) (positions p) (least_of q) (most_of q) (plan r (suc k + (width p + suc (quantifier_width q))))
plan (Choice b r) k = branches (plan b k) (plan r (k + suc (width b)))

-- the plan of a whole pattern: one group
abbrev pub whole : Expression → Plan
whole t = piece (group (plan t 0) (gap t)) (positions t) 1 (Some 1) Nothing

pub branch_gap : (t : Expression) → IsBranch t → gap t ≡ false
branch_gap Empty b = refl
branch_gap (Piece a q r) b = refl
branch_gap (Group p q r) b = refl
branch_gap (Choice b r) h = absurd h

-- an item has instructions
abbrev ItemSome : (Bool → Bool → Plan → Plan) → Type 0
ItemSome item = (o r : Bool) (rest : Plan) → is_nothing (item o r rest) ≡ false

repeated_some : (item : Bool → Bool → Plan → Plan) → ItemSome item → (least : ℕ) (most : Option ℕ) (rest : Plan) → copies_of least most ≢ 0 → is_nothing (repeated item least most rest) ≡ false
repeated_some item h zero None rest n = h true true rest
repeated_some item h (suc zero) None rest n = h false true rest
repeated_some item h (suc (suc k)) None rest n = h false false (iterate k (item false false) (item false true rest))
repeated_some item h (suc k) (Some most) rest n = h false false (iterate k (item false false) (iterate (most - suc k) (item true false) rest))
repeated_some item h zero (Some zero) rest n = absurd (n refl)
repeated_some item h zero (Some (suc m)) rest n =
    ap (λ k. is_nothing (iterate k (item true false) rest)) (let z : suc m - 0 ≡ suc m = omega arith in z) ∙ h true false (iterate m (item true false) rest)

piece_nothing : (item : Bool → Bool → Plan → Plan) → ItemSome item → (n : ℕ) (q : Quantifier) (rest : Plan) (m : ℕ) → is_nothing rest ≡ (m == 0)
    → is_nothing (piece item n (least_of q) (most_of q) rest) ≡ (n * copies q + m == 0)
piece_nothing item h n q rest m i = choose (n * copies_of (least_of q) (most_of q) == 0) (nat_lt 65536 (n * copies_of (least_of q) (most_of q))) refl
  where
    c : n * copies q ≡ n * copies_of (least_of q) (most_of q)
    c = ap (λ x. n * x) (copies_bounds q)

    choose : (x y : Bool) → (n * copies_of (least_of q) (most_of q) == 0) ≡ x
        → is_nothing (cond x rest (cond y (item false false rest) (repeated item (least_of q) (most_of q) rest))) ≡ (n * copies q + m == 0)
    choose true y e =
        i ∙ ap (λ z. z == 0) (let f : n * copies_of (least_of q) (most_of q) ≡ 0 = eqb-true (n * copies_of (least_of q) (most_of q)) 0 e in let d = c in let g : m ≡ n * copies q + m = omega arith in g)
    choose false y e =
        let f : n * copies_of (least_of q) (most_of q) ≢ 0 = eqb-false (n * copies_of (least_of q) (most_of q)) 0 e in
        some y f ∙ sym (ne_eqb (n * copies q + m) 0 (λ z. f (let d = c in let g : n * copies_of (least_of q) (most_of q) ≡ 0 = omega arith in g)))
      where
        none : copies_of (least_of q) (most_of q) ≡ 0 → n * copies_of (least_of q) (most_of q) ≡ 0
        none z = ap (λ x. n * x) z ∙ mul-zero n

        some : (y : Bool) → n * copies_of (least_of q) (most_of q) ≢ 0 → is_nothing (cond y (item false false rest) (repeated item (least_of q) (most_of q) rest)) ≡ false
        some true f = h false false rest
        some false f = repeated_some item h (least_of q) (most_of q) rest (λ z. f (none z))

branches_nothing : (p q : Plan) (m n : ℕ) → is_nothing p ≡ (m == 0) → is_nothing q ≡ (n == 0) → is_nothing (branches p q) ≡ (m + n == 0)
branches_nothing p q m n e f = choose (is_nothing p) (is_nothing q) refl refl
  where
    choose : (x y : Bool) → is_nothing p ≡ x → is_nothing q ≡ y → is_nothing (cond x q (cond y p (Either p q))) ≡ (m + n == 0)
    choose true y i j = f ∙ ap (λ z. z == 0) (let g : m ≡ 0 = eqb-true m 0 (sym e ∙ i) in let h : n ≡ m + n = omega arith in h)
    choose false true i j = e ∙ ap (λ z. z == 0) (let g : n ≡ 0 = eqb-true n 0 (sym f ∙ j) in let h : m ≡ m + n = omega arith in h)
    choose false false i j = sym (ne_eqb (m + n) 0 (λ z. eqb-false m 0 (sym e ∙ i) (let g : m ≡ 0 = omega arith in g)))

-- a plan has no instructions where its tree has no positions
pub plan_nothing : (t : Expression) (k : ℕ) → is_nothing (plan t k) ≡ (positions t == 0)
plan_nothing Empty k = refl
plan_nothing (Piece a q r) k =
    piece_nothing (One k) (λ o s rest. refl) 1 q (plan r (k + (atom_width a + quantifier_width q))) (positions r) (plan_nothing r (k + (atom_width a + quantifier_width q)))
    ∙ ap (λ z. z + positions r == 0) (let g : 1 * copies q ≡ copies q = omega arith in g)
plan_nothing (Group p q r) k =
    piece_nothing (group (plan p (suc k)) (gap p)) (λ o s rest. group_some (plan p (suc k)) (gap p) o s rest) (positions p) q
    (plan r (suc k + (width p + suc (quantifier_width q)))) (positions r) (plan_nothing r (suc k + (width p + suc (quantifier_width q))))
plan_nothing (Choice b r) k =
    branches_nothing (plan b k) (plan r (k + suc (width b))) (positions b) (positions r) (plan_nothing b k) (plan_nothing r (k + suc (width b)))

behind : (tokens x more : List Token) (k w : ℕ) → drop k tokens ≡ x → drop (w + 0) x ≡ drop 0 more → drop (k + w) tokens ≡ more
behind tokens x more k w e f = sym (drop-drop w k tokens) ∙ ap (λ y. drop w y) e ∙ ap (λ n. drop n x) (sym (add-zero w)) ∙ f

behind_atom : (tokens more : List Token) (a : Atom) (q : Quantifier) (k : ℕ)
    → drop k tokens ≡ atom_tokens_then a (quantifier_tokens_then q more) → drop (k + (atom_width a + quantifier_width q)) tokens ≡ more
behind_atom tokens more a q k e =
    behind tokens (atom_tokens_then a (quantifier_tokens_then q more)) more k (atom_width a + quantifier_width q) e
    (ap (λ n. drop n (atom_tokens_then a (quantifier_tokens_then q more))) (let f : atom_width a + quantifier_width q + 0 ≡ atom_width a + (quantifier_width q + 0) = omega arith in f)
    ∙ atom_rest a (quantifier_tokens_then q more) (quantifier_width q + 0) ∙ quantifier_rest q more 0)

behind_open : (tokens more : List Token) (k : ℕ) → drop k tokens ≡ OpenToken ∷ more → drop (suc k) tokens ≡ more
behind_open tokens more k e =
    ap (λ n. drop n tokens) (let f : suc k ≡ k + 1 = omega arith in f) ∙ behind tokens (OpenToken ∷ more) more k 1 e refl

behind_group : (tokens more : List Token) (p : Expression) (q : Quantifier) (k : ℕ)
    → drop k tokens ≡ tokens_then p (CloseToken ∷ quantifier_tokens_then q more) → drop (k + (width p + suc (quantifier_width q))) tokens ≡ more
behind_group tokens more p q k e =
    behind tokens (tokens_then p (CloseToken ∷ quantifier_tokens_then q more)) more k (width p + suc (quantifier_width q)) e
    (ap (λ n. drop n (tokens_then p (CloseToken ∷ quantifier_tokens_then q more)))
    (let f : width p + suc (quantifier_width q) + 0 ≡ width p + suc (quantifier_width q + 0) = omega arith in f)
    ∙ tokens_rest p (CloseToken ∷ quantifier_tokens_then q more) (suc (quantifier_width q + 0)) ∙ quantifier_rest q more 0)

behind_branch : (tokens more : List Token) (b : Expression) (k : ℕ) → drop k tokens ≡ tokens_then b (BarToken ∷ more) → drop (k + suc (width b)) tokens ≡ more
behind_branch tokens more b k e =
    behind tokens (tokens_then b (BarToken ∷ more)) more k (suc (width b)) e
    (ap (λ n. drop n (tokens_then b (BarToken ∷ more))) (let f : suc (width b) + 0 ≡ width b + suc 0 = omega arith in f)
    ∙ tokens_rest b (BarToken ∷ more) (suc 0))

factor_within : (n c : ℕ) → n * c ≤ limit → n * c ≢ 0 → n ≤ limit
factor_within n zero m h = absurd (h (omega arith))
factor_within n (suc c) m h = factor n c m
  where
    factor : (n c : ℕ) → n * suc c ≤ limit → n ≤ limit
    factor n c m = let z : n ≤ n * suc c = le-mul_of_pos_right n (zero-lt-suc c) in omega arith

module _ (tokens : List Token) where
  -- the atom at a token has the character
  abbrev pub Takes : ℕ → ℕ → Type 0
  Takes at c = IsTrue (admits tokens at c)

  taken_one : (a : Atom) (k : ℕ) (more : List Token) → drop k tokens ≡ atom_tokens_then a more → IsAtom a → BeginsNoMember more
      → (w : List ℕ) → IsTakenAt Takes k w ↔ IsOneOf a w
  taken_one a k more e v h w = (
    λ x. (x.0, x.1, (atom_true a x.0 more v h).0 (subst (λ ts. IsTrue (first_admits ts x.0)) e x.2)),
    λ x. (x.0, x.1, subst (λ ts. IsTrue (first_admits ts x.0)) (sym e) ((atom_true a x.0 more v h).1 x.2)),
  )

  both_second : (P Q Q2 : List ℕ → Type 0) (w : List ℕ) → ((u : List ℕ) → Q u ↔ Q2 u) → IsBoth P Q w ↔ IsBoth P Q2 w
  both_second P Q Q2 w g = (λ x. both_map P Q P Q2 w (λ u y. y) (λ u y. (g u).0 y) x, λ x. both_map P Q2 P Q w (λ u y. y) (λ u y. (g u).1 y) x)

  -- of one branch
  as_branch : (t : Expression) (k : ℕ) (w : List ℕ) → IsBranch t → Flagged (gap t) false (PlanLang Takes (plan t k)) w ↔ Lang t w → PlanLang Takes (plan t k) w ↔ Lang t w
  as_branch t k w b h = subst (λ g. Flagged g false (PlanLang Takes (plan t k)) w ↔ Lang t w) (branch_gap t b) h

  -- the branches that are kept of a tree, with the empty word where one is not, have its words
  pub plan_lang : (t : Expression) (k : ℕ) (more : List Token) → IsExpression t → positions t ≤ limit → drop k tokens ≡ tokens_then t more → BeginsNoMember more
      → (w : List ℕ) → Flagged (gap t) false (PlanLang Takes (plan t k)) w ↔ Lang t w
  plan_lang Empty k more v m e h w = (λ x. x, λ x. x)
  plan_lang (Piece a q r) k more v m e h w =
      iff_both
      (piece_holds Takes (One k) (IsOneOf a) 1 q (plan r (k + (atom_width a + quantifier_width q))) v.1 (omega arith) (λ z. absurd (omega arith))
      (λ z o f rest u. flagged_both o f (IsTakenAt Takes k) (IsOneOf a) (PlanLang Takes rest)
      (λ y. taken_one a k (quantifier_tokens_then q (tokens_then r more)) e v.0 (quantifier_no_member q (tokens_then r more) (tokens_no_member r more h)) y) u) w)
      (both_second (IsQuantified (IsOneOf a) q) (PlanLang Takes (plan r (k + (atom_width a + quantifier_width q)))) (Lang r) w
      (λ u. as_branch r (k + (atom_width a + quantifier_width q)) u v.2
      (plan_lang r (k + (atom_width a + quantifier_width q)) more v.3 (omega arith) (behind_atom tokens (tokens_then r more) a q k e) h u)))
  plan_lang (Group p q r) k more v m e h w =
      let e1 = behind_open tokens (tokens_then p (CloseToken ∷ quantifier_tokens_then q (tokens_then r more))) k e in
      let m1 : positions p * copies q ≤ limit = le_trans (le-add_right (positions p * copies q) (positions r)) m in
      let m2 : positions r ≤ limit = le_trans (le-add_left (positions r) (positions p * copies q)) m in
      iff_both
      (piece_holds Takes (group (plan p (suc k)) (gap p)) (Lang p) (positions p) q (plan r (suc k + (width p + suc (quantifier_width q)))) v.1 m1 (λ z. no_positions p v.0 z)
      (λ z o f rest u. iff_both (group_lang Takes (plan p (suc k)) (gap p) o f rest u)
      (flagged_both o f (Flagged (gap p) false (PlanLang Takes (plan p (suc k)))) (Lang p) (PlanLang Takes rest)
      (λ y. plan_lang p (suc k) (CloseToken ∷ quantifier_tokens_then q (tokens_then r more)) v.0 (factor_within (positions p) (copies q) m1 z) e1 tt y) u)) w)
      (both_second (IsQuantified (Lang p) q) (PlanLang Takes (plan r (suc k + (width p + suc (quantifier_width q))))) (Lang r) w
      (λ u. as_branch r (suc k + (width p + suc (quantifier_width q))) u v.2
      (plan_lang r (suc k + (width p + suc (quantifier_width q))) more v.3 m2 (behind_group tokens (tokens_then r more) p q (suc k) e1) h u)))
  plan_lang (Choice b r) k more v m e h w =
      let f = as_branch b k w v.0 (plan_lang b k (BarToken ∷ tokens_then r more) v.1 (omega arith) e tt w) in
      let g = plan_lang r (k + suc (width b)) more v.2 (omega arith) (behind_branch tokens (tokens_then r more) b k e) h w in
      subst (λ x. Flagged x false (PlanLang Takes (branches (plan b k) (plan r (k + suc (width b))))) w ↔ Lang (Choice b r) w)
      (ap₂ (λ x y. x || (y || gap r)) (plan_nothing b k) (plan_nothing r (k + suc (width b))))
      (branches_lang Takes (plan b k) (plan r (k + suc (width b))) (gap r) (Lang b) (Lang r) w f g)
