-- The code of a pattern has at most four instructions for each position.
use Rattle.std.proofs.Common.{◌≡◌, ◌≢◌, ℕ, zero, suc, ◌+◌, ◌-◌, ◌*◌, ◌≤◌, max, Bool, true, false, cond, ◌||◌, ◌==◌, nat_lt, Option, Some, None, List, [], refl, sym, ap, ◌∙◌, subst, arith, eqb-true, length, zero-mul, mul-zero, mul_comm, le-mul_of_pos_right, add-mul}
use Rattle.std.proofs.lemmas.Bool.{eqb-false}
use Rattle.pattern_match.specs.Expression.{Quantifier, Once, Expression, Empty, Piece, Group, Choice}
use Rattle.pattern_match.specs.Valid.{IsQuantifier, IsBranch, IsExpression}
use Rattle.pattern_match.specs.Positions.{copies, positions}
use Rattle.pattern_match.specs.Reading.{IsTreeOf}
use Rattle.pattern_match.specs.inner.Plan.{Plan, Nothing, One, Many, Either, size, IsOneBranch, IsPlan}
use Rattle.pattern_match.specs.Compiled.{code_of_text}
use Rattle.pattern_match.proofs.Planning.{least_of, most_of, copies_of, copies_bounds, iterate, repeated, piece, DoNotFall, quantifier_bounds}
use Rattle.pattern_match.proofs.Grouping.{is_nothing, single, merged, group, single_merged, branches}
use Rattle.pattern_match.proofs.Tokens.{atom_width, quantifier_width, width}
use Rattle.pattern_match.proofs.PlanOf.{gap, plan, plan_nothing, whole}
use Rattle.pattern_match.proofs.PlanCode.{code, code_length}
use Rattle.pattern_match.proofs.Judging.{tree_code}
use Rattle.pattern_match.proofs.Matching.{tree_plan}

-- how many atoms a plan has
abbrev takes : Plan → ℕ
takes Nothing = 0
takes (One at o r rest) = suc (takes rest)
takes (Many inner o r rest) = takes inner + takes rest
takes (Either branch rest) = takes branch + takes rest

-- how many items its branches have
abbrev items : Plan → ℕ
items Nothing = 0
items (One at o r rest) = suc (items rest)
items (Many inner o r rest) = suc (items rest)
items (Either branch rest) = items branch + items rest

-- one branch is short enough
abbrev Fits : Plan → Type 0
Fits p = size p + 3 * items p ≤ 4 * takes p

-- so are branches, and a group of them
record FitsAll (p : Plan) : Type 0 where
  one : is_nothing p ≡ false → 1 ≤ items p
  two : is_nothing p ≡ false → single p ≡ false → 2 ≤ items p
  fits : is_nothing p ≡ false → size p + 2 * items p + 1 ≤ 4 * takes p

branch_one : (p : Plan) → IsOneBranch p → is_nothing p ≡ false → 1 ≤ items p
branch_one Nothing b h = absurd (cc)
branch_one (One at o r rest) b h = omega arith
branch_one (Many inner o r rest) b h = omega arith
branch_one (Either branch rest) b h = absurd b

branch_two : (p : Plan) → IsPlan p → IsOneBranch p → is_nothing p ≡ false → single p ≡ false → 2 ≤ items p
branch_two Nothing v b h s = absurd (cc)
branch_two (One at o r rest) v b h s = let n = branch_one rest v.0 s in omega arith
branch_two (Many inner o r rest) v b h s = let n = branch_one rest v.1 s in omega arith
branch_two (Either branch rest) v b h s = absurd b

of_branch : (p : Plan) → IsPlan p → IsOneBranch p → Fits p → FitsAll p
of_branch p v b f = record {
  one = branch_one p b;
  two = branch_two p v b;
  fits = λ h. let n = branch_one p b h in omega arith;
}

-- an item of so many positions is short enough
abbrev ItemFits : (Bool → Bool → Plan → Plan) → ℕ → Type 0
ItemFits item n = (o r : Bool) (rest : Plan) (m : ℕ) → Fits rest → takes rest ≤ m → Fits (item o r rest) × (takes (item o r rest) ≤ n + m)

one_fits : (k : ℕ) → ItemFits (One k) 1
one_fits k o r rest m f t = (omega arith, omega arith)

merged_size : (o r : Bool) (p rest : Plan) → single p ≡ true
    → (size (merged o r p rest) ≡ size p + size rest) × ((takes (merged o r p rest) ≡ takes p + takes rest) × ((items (merged o r p rest) ≡ suc (items rest)) × (items p ≡ 1)))
merged_size o r Nothing rest h = absurd (cc)
merged_size o r (One at e s Nothing) rest h = (omega arith, (omega arith, (refl, refl)))
merged_size o r (One at e s (One a b c d)) rest h = absurd (cc)
merged_size o r (One at e s (Many a b c d)) rest h = absurd (cc)
merged_size o r (One at e s (Either a b)) rest h = absurd (cc)
merged_size o r (Many inner e s Nothing) rest h = (omega arith, (omega arith, (refl, refl)))
merged_size o r (Many inner e s (One a b c d)) rest h = absurd (cc)
merged_size o r (Many inner e s (Many a b c d)) rest h = absurd (cc)
merged_size o r (Many inner e s (Either a b)) rest h = absurd (cc)
merged_size o r (Either branch x) rest h = absurd (cc)

group_fits : (p : Plan) (empty : Bool) (n : ℕ) → FitsAll p → is_nothing p ≡ false → takes p ≤ n → ItemFits (group p empty) n
group_fits p empty n a h t o r rest m f u = choose (single p) refl
  where
    choose : (b : Bool) → single p ≡ b
        → Fits (cond b (merged o r (merged empty false p Nothing) rest) (Many p (o || empty) (r || false) rest))
        × (takes (cond b (merged o r (merged empty false p Nothing) rest) (Many p (o || empty) (r || false) rest)) ≤ n + m)
    choose true s =
        let x = merged_size empty false p Nothing s in
        let y = merged_size o r (merged empty false p Nothing) rest (single_merged empty false p s) in
        let z = a.fits h in
        let i : items p ≡ 1 = x.1.1.1 in
        let sizes : size (merged o r (merged empty false p Nothing) rest) ≡ size p + 0 + size rest = y.0 ∙ ap (λ k. k + size rest) x.0 in
        let taken : takes (merged o r (merged empty false p Nothing) rest) ≡ takes p + 0 + takes rest = y.1.0 ∙ ap (λ k. k + takes rest) x.1.0 in
        let itemed : items (merged o r (merged empty false p Nothing) rest) ≡ suc (items rest) = y.1.1.0 in
        (omega arith, omega arith)
    choose false s = let z = a.fits h in let i = a.two h s in (omega arith, omega arith)

next_product : (k n m : ℕ) → n + (k * n + m) ≡ suc k * n + m
next_product k n m = grind arith

iterate_fits : (item : Bool → Bool → Plan → Plan) (n : ℕ) → ItemFits item n → (o r : Bool) (k : ℕ) (rest : Plan) (m : ℕ) → Fits rest → takes rest ≤ m
    → Fits (iterate k (item o r) rest) × (takes (iterate k (item o r) rest) ≤ k * n + m)
iterate_fits item n h o r zero rest m f t = (f, let z : 0 * n ≡ 0 = zero-mul n in omega arith)
iterate_fits item n h o r (suc k) rest m f t =
    let i = iterate_fits item n h o r k rest m f t in
    let x = h o r (iterate k (item o r) rest) (k * n + m) i.0 i.1 in
    (x.0, subst (λ y. takes (item o r (iterate k (item o r) rest)) ≤ y) (next_product k n m) x.1)

between : (least most n m : ℕ) → least ≤ most → least * n + ((most - least) * n + m) ≡ n * most + m
between least most n m h =
    let a : (least + (most - least)) * n ≡ least * n + (most - least) * n = add-mul least (most - least) n in
    let b : least + (most - least) ≡ most = omega arith in
    let c : most * n ≡ n * most = mul_comm most n in
    let d : (least + (most - least)) * n ≡ most * n = ap (λ x. x * n) b in
    omega arith

repeated_fits : (item : Bool → Bool → Plan → Plan) (n : ℕ) → ItemFits item n → (least : ℕ) (most : Option ℕ) (rest : Plan) (m : ℕ) → DoNotFall (λ _ _. Unit {0}) least most
    → Fits rest → takes rest ≤ m → Fits (repeated item least most rest) × (takes (repeated item least most rest) ≤ n * copies_of least most + m)
repeated_fits item n h least (Some most) rest m d f t =
    let i = iterate_fits item n h true false (most - least) rest m f t in
    let x = iterate_fits item n h false false least (iterate (most - least) (item true false) rest) ((most - least) * n + m) i.0 i.1 in
    (x.0, subst (λ y. takes (repeated item least (Some most) rest) ≤ y) (between least most n m d) x.1)
repeated_fits item n h zero None rest m d f t = let x = h true true rest m f t in (x.0, let z : n * 1 ≡ n = omega arith in let y : n * max 0 1 ≡ n * 1 = refl in omega arith)
repeated_fits item n h (suc k) None rest m d f t =
    let i = h false true rest m f t in
    let x = iterate_fits item n h false false k (item false true rest) (n + m) i.0 i.1 in
    (x.0, subst (λ y. takes (repeated item (suc k) None rest) ≤ y) (last k n m) x.1)
  where
    last : (k n m : ℕ) → k * n + (n + m) ≡ n * max (suc k) 1 + m
    last k n m =
        let a : max (suc k) 1 ≡ suc k = omega arith in
        let b : n * max (suc k) 1 ≡ n * suc k = ap (λ x. n * x) a in
        let c : suc k * n ≡ n * suc k = mul_comm (suc k) n in
        let e = next_product k n m in
        omega arith

piece_fits : (item : Bool → Bool → Plan → Plan) (n : ℕ) (q : Quantifier) (rest : Plan) (m : ℕ) → IsQuantifier q → (n ≢ 0 → ItemFits item n) → Fits rest → takes rest ≤ m
    → Fits (piece item n (least_of q) (most_of q) rest) × (takes (piece item n (least_of q) (most_of q) rest) ≤ n * copies q + m)
piece_fits item n q rest m v h f t =
    subst (λ x. Fits (piece item n (least_of q) (most_of q) rest) × (takes (piece item n (least_of q) (most_of q) rest) ≤ x + m)) (sym (ap (λ x. n * x) (copies_bounds q)))
    (choose (n * copies_of (least_of q) (most_of q) == 0) (nat_lt 65536 (n * copies_of (least_of q) (most_of q))) refl)
  where
    N : ℕ
    N = n * copies_of (least_of q) (most_of q)

    some : N ≢ 0 → n ≢ 0
    some z e = z (ap (λ x. x * copies_of (least_of q) (most_of q)) e ∙ zero-mul (copies_of (least_of q) (most_of q)))

    copied : N ≢ 0 → n ≤ N
    copied z = positive (copies_of (least_of q) (most_of q)) refl
      where
        positive : (c : ℕ) → copies_of (least_of q) (most_of q) ≡ c → n ≤ N
        positive zero e = absurd (z (ap (λ x. n * x) e ∙ mul-zero n))
        positive (suc c) e = subst (λ x. n ≤ n * x) (sym e) (le-mul_of_pos_right n (omega arith))

    choose : (x y : Bool) → (N == 0) ≡ x
        → Fits (cond x rest (cond y (item false false rest) (repeated item (least_of q) (most_of q) rest)))
        × (takes (cond x rest (cond y (item false false rest) (repeated item (least_of q) (most_of q) rest))) ≤ N + m)
    choose true y e = (f, omega arith)
    choose false true e =
        let z = eqb-false N 0 e in
        let x = h (some z) false false rest m f t in
        let c = copied z in
        (x.0, omega arith)
    choose false false e =
        repeated_fits item n (h (some (eqb-false N 0 e))) (least_of q) (most_of q) rest m (quantifier_bounds (λ _ _. Unit {0}) q v) f t

-- the plan of a tree is short enough, and has no more atoms than the tree has positions
record FitsTree (t : Expression) (k : ℕ) : Type 0 where
  taken : takes (plan t k) ≤ positions t
  branch : IsBranch t → Fits (plan t k)
  all : FitsAll (plan t k)

branches_fit : (p q : Plan) → FitsAll p → Fits p → FitsAll q → FitsAll (branches p q)
branches_fit p q a f b = choose (is_nothing p) (is_nothing q) refl refl
  where
    choose : (x y : Bool) → is_nothing p ≡ x → is_nothing q ≡ y → FitsAll (cond x q (cond y p (Either p q)))
    choose true y i j = b
    choose false true i j = a
    choose false false i j =
        let m = a.one i in
        let n = b.one j in
        let g = b.fits j in
        record {
          one = λ h. omega arith;
          two = λ h s. omega arith;
          fits = λ h. omega arith;
        }

branches_take : (p q : Plan) (m n : ℕ) → takes p ≤ m → takes q ≤ n → takes (branches p q) ≤ m + n
branches_take p q m n s t = choose (is_nothing p) (is_nothing q)
  where
    choose : (x y : Bool) → takes (cond x q (cond y p (Either p q))) ≤ m + n
    choose true y = omega arith
    choose false true = omega arith
    choose false false = omega arith

not_nothing : (t : Expression) (k : ℕ) → positions t ≢ 0 → is_nothing (plan t k) ≡ false
not_nothing t k h = choose (is_nothing (plan t k)) refl
  where
    choose : (x : Bool) → is_nothing (plan t k) ≡ x → x ≡ false
    choose false e = refl
    choose true e = absurd (h (eqb-true (positions t) 0 (sym (plan_nothing t k) ∙ e)))

tree_fits : (t : Expression) (k : ℕ) → IsExpression t → FitsTree t k
tree_fits Empty k v = record {
  taken = none;
  branch = λ b. fits;
  all = of_branch Nothing tt tt fits;
}
  where
    none : takes Nothing ≤ 0
    none = omega arith

    fits : Fits Nothing
    fits = omega arith
tree_fits (Piece a q r) k v =
    let i = tree_fits r (k + (atom_width a + quantifier_width q)) v.3 in
    let x = piece_fits (One k) 1 q (plan r (k + (atom_width a + quantifier_width q))) (positions r) v.1 (λ z. one_fits k) (i.branch v.2) i.taken in
    let p = tree_plan (Piece a q r) k v in
    record {
      taken = omega arith;
      branch = λ b. x.0;
      all = of_branch (plan (Piece a q r) k) p.0 (p.1 tt) x.0;
    }
tree_fits (Group g q r) k v =
    let h = tree_fits g (suc k) v.0 in
    let i = tree_fits r (suc k + (width g + suc (quantifier_width q))) v.3 in
    let x = piece_fits (group (plan g (suc k)) (gap g)) (positions g) q (plan r (suc k + (width g + suc (quantifier_width q)))) (positions r) v.1
    (λ z. group_fits (plan g (suc k)) (gap g) (positions g) h.all (not_nothing g (suc k) z) h.taken) (i.branch v.2) i.taken in
    let p = tree_plan (Group g q r) k v in
    record {
      taken = x.1;
      branch = λ b. x.0;
      all = of_branch (plan (Group g q r) k) p.0 (p.1 tt) x.0;
    }
tree_fits (Choice l r) k v =
    let h = tree_fits l k v.1 in
    let i = tree_fits r (k + suc (width l)) v.2 in
    record {
      taken = branches_take (plan l k) (plan r (k + suc (width l))) (positions l) (positions r) h.taken i.taken;
      branch = λ b. absurd b;
      all = branches_fit (plan l k) (plan r (k + suc (width l))) h.all (h.branch v.0) i.all;
    }

whole_size : (t : Expression) → IsExpression t → size (whole t) ≤ 4 * positions t
whole_size t v =
    let h = tree_fits t 0 v in
    let x = piece_fits (group (plan t 0) (gap t)) (positions t) Once Nothing 0 tt
    (λ z. group_fits (plan t 0) (gap t) (positions t) h.all (not_nothing t 0 z) h.taken) ((tree_fits Empty 0 tt).branch tt) (tree_fits Empty 0 tt).taken in
    let y : takes (whole t) ≤ positions t * 1 + 0 = x.1 in
    let f : Fits (whole t) = x.0 in
    omega arith

-- the code of a text has at most four instructions for each position of its tree
pub code_size : (text : List ℕ) (t : Expression) → IsTreeOf text t → length (code_of_text text) ≤ 4 * positions t
code_size text t h =
    let l : length (code_of_text text) ≡ length (code (whole t)) = ap length (tree_code text t h) in
    let s = code_length (whole t) [] in
    let w = whole_size t h.valid in
    omega arith
