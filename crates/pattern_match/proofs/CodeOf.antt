-- The code that is built of the tokens of a syntax tree is that of its plan.
use Rattle.std.proofs.Common.{◌≡◌, ℕ, zero, suc, ◌+◌, ◌-◌, ◌*◌, ◌≤◌, min, ◌⊎◌, inl, inr, Bool, true, false, cond, ◌||◌, ◌==◌, nat_lt, Option, Some, None, List, [], ◌∷◌, ◌++◌, length, take, drop, set, refl, sym, ap, ap₂, ◌∙◌, subst, arith, append_assoc, append-nil, length-append, drop-drop, eqb-true, eq-eqb, lt-ltb, mul-zero, le-mul_of_pos_right, zero-lt-suc, le_trans, zero-mul}
use Rattle.std.proofs.Math.Seq.{take-append_seam, drop-append_seam, set-append_seam}
use Rattle.std.proofs.lemmas.Bool.{eqb-false, ne_eqb}
use Rattle.lexical_core.proofs.Tests.{or_false, or_true}
use Rattle.pattern_match.specs.Expression.{ClassMember, One as OneItem, Range, Spaces, Hyphen, Atom, Character, Dot, Escape, Space, Class, Quantifier, Once, Optional, AnyNumber, OneOrMore, Exactly, AtLeast, Between, Expression, Empty, Piece, Group, Choice}
use Rattle.pattern_match.specs.Valid.{IsBranch, IsExpression}
use Rattle.pattern_match.specs.Positions.{copies, positions}
use Rattle.pattern_match.specs.inner.Plan.{Plan, Nothing, One, Either, size}
use Rattle.pattern_match.specs.Building.{Built, cap_count, flagged_first, repeated_code, kept_copies, sum_of, is_branch_empty, is_item, wrapped_group, after_atom, after_open, after_bar, after_close_of, after_close, closed_code, piece_code, after_times, build_behind, nothing_built, built_whole}
use Rattle.pattern_match.specs.declared.instruction.Instruction.{Instruction}
use Rattle.pattern_match.specs.declared.instruction.Instruction.TheVariants.{Take, Open, Bar, Close}
use Rattle.pattern_match.specs.declared.instruction.Begun.{Begun}
use Rattle.pattern_match.specs.declared.token.Token.{Token}
use Rattle.pattern_match.specs.declared.token.Token.TheVariants.{Close as CloseToken, Bar as BarToken}
use Rattle.pattern_match.proofs.Planning.{least_of, most_of, repeated, piece}
use Rattle.pattern_match.proofs.Grouping.{is_nothing, single, group}
use Rattle.pattern_match.proofs.Tokens.{items_tokens_then, atom_tokens_then, quantifier_tokens_then, tokens_then, items_width, atom_width, quantifier_width, width}
use Rattle.pattern_match.proofs.PlanOf.{gap, branch_gap, plan, plan_nothing, whole}
use Rattle.pattern_match.proofs.PlanCode.{code, code_length, code_split, nothing_code, some_size, item_single, ItemCode, one_item, group_code, group_item, repeated_plan_code, piece_split}

-- positions that are counted up to the limit tell the same of what is kept
capped_cases : (n : ℕ) → (min n 65537 ≡ n) ⊎ ((min n 65537 ≡ 65537) × (65537 ≤ n))
capped_cases n = grind arith

many : (n k : ℕ) → 65537 ≤ n → 65537 ≤ n * suc k
many n k h = let z : n ≤ n * suc k = le-mul_of_pos_right n (zero-lt-suc k) in le_trans h z

same_zero : (n k : ℕ) → ((cap_count n * k == 0) ≡ (n * k == 0)) × ((nat_lt 65536 (cap_count n * k) ≡ nat_lt 65536 (n * k)) × (cap_count (cap_count n * k) ≡ cap_count (n * k)))
same_zero n k = choose (capped_cases n)
  where
    choose : (min n 65537 ≡ n) ⊎ ((min n 65537 ≡ 65537) × (65537 ≤ n))
        → ((cap_count n * k == 0) ≡ (n * k == 0)) × ((nat_lt 65536 (cap_count n * k) ≡ nat_lt 65536 (n * k)) × (cap_count (cap_count n * k) ≡ cap_count (n * k)))
    choose (inl e) = (ap (λ x. x * k == 0) e, (ap (λ x. nat_lt 65536 (x * k)) e, ap (λ x. cap_count (x * k)) e))
    choose (inr (e, l)) = by_copies k
      where
        by_copies : (k : ℕ) → ((cap_count n * k == 0) ≡ (n * k == 0)) × ((nat_lt 65536 (cap_count n * k) ≡ nat_lt 65536 (n * k)) × (cap_count (cap_count n * k) ≡ cap_count (n * k)))
        by_copies zero = (ap (λ x. x == 0) (z0 ∙ sym z1), (ap (λ x. nat_lt 65536 x) (z0 ∙ sym z1), ap cap_count (z0 ∙ sym z1)))
          where
            z0 : cap_count n * 0 ≡ 0
            z0 = mul-zero (cap_count n)

            z1 : n * 0 ≡ 0
            z1 = mul-zero n
        by_copies (suc j) =
            let a : 65537 ≤ cap_count n * suc j = many (cap_count n) j (omega arith) in
            let b : 65537 ≤ n * suc j = many n j l in (
              ne_eqb (cap_count n * suc j) 0 (λ x. absurd (omega arith)) ∙ sym (ne_eqb (n * suc j) 0 (λ x. absurd (omega arith))),
              (lt-ltb 65536 (cap_count n * suc j) (omega arith) ∙ sym (lt-ltb 65536 (n * suc j) (omega arith)), omega arith),
            )

-- what an atom or a group leaves: c before it, and its fragment where it has positions
abbrev pub fragment : ℕ → List Instruction → List Instruction
fragment n f = cond (n == 0) [] f

-- the groups around it, the positions before it, and the branch that it stands in
pub record Around : Type 0 where
  pub begun : List Begun
  pub total : ℕ
  pub branch : ℕ
  pub empty : Bool

-- what stands around the next piece
abbrev pub around : Built → Around
around b = record { begun = b.begun; total = sum_of b; branch = b.branch; empty = b.empty }

-- what stands around the last piece
abbrev pub around_last : Built → Around
around_last b = record { begun = b.begun; total = b.total; branch = b.branch; empty = b.empty }

pub record Ready (b : Built) (c f : List Instruction) (a : Around) (n : ℕ) : Type 0 where
  pub code_is : b.code ≡ c ++ fragment n f
  pub around_is : around_last b ≡ a
  pub last_is : b.last ≡ cap_count n
  pub start_is : b.start ≡ length c

-- what a piece leaves
pub record Done (b : Built) (c : List Instruction) (a : Around) (n : ℕ) : Type 0 where
  pub code_is : b.code ≡ c
  pub around_is : around_last b ≡ a
  pub last_is : b.last ≡ cap_count n

zero_product : (n k : ℕ) → n ≡ 0 → n * k ≡ 0
zero_product n k e = ap (λ x. x * k) e ∙ zero-mul k

module _ (item : Bool → Bool → Plan → Plan) (f : List Instruction) (h : ItemCode item f) where
  -- a fragment that is repeated
  repeated_is : (c : List Instruction) (n least : ℕ) (most : Option ℕ)
      → piece_code (length c) (c ++ fragment n f) (cap_count n * kept_copies least most) least most ≡ c ++ code (piece item n least most Nothing)
  repeated_is c n least most =
      ap (λ x. cond x (take (length c) (c ++ fragment n f)) (cond (nat_lt 65536 (cap_count n * kept_copies least most)) (c ++ fragment n f)
      (take (length c) (c ++ fragment n f) ++ repeated_code least most (drop (length c) (c ++ fragment n f))))) (same_zero n (kept_copies least most)).0
      ∙ ap (λ x. cond (n * kept_copies least most == 0) (take (length c) (c ++ fragment n f)) (cond x (c ++ fragment n f)
      (take (length c) (c ++ fragment n f) ++ repeated_code least most (drop (length c) (c ++ fragment n f))))) (same_zero n (kept_copies least most)).1.0
      ∙ choose (n * kept_copies least most == 0) (nat_lt 65536 (n * kept_copies least most)) (n == 0) refl refl
    where
      choose : (a b z : Bool) → (n * kept_copies least most == 0) ≡ a → (n == 0) ≡ z
          → cond a (take (length c) (c ++ cond z [] f)) (cond b (c ++ cond z [] f) (take (length c) (c ++ cond z [] f) ++ repeated_code least most (drop (length c) (c ++ cond z [] f))))
          ≡ c ++ code (cond a Nothing (cond b (item false false Nothing) (repeated item least most Nothing)))
      choose true b z e g = take-append_seam c (cond z [] f) ∙ sym (append-nil c)
      choose false b true e g = absurd (eqb-false (n * kept_copies least most) 0 e (zero_product n (kept_copies least most) (eqb-true n 0 g)))
      choose false true false e g = ap (λ x. c ++ x) (sym h.one)
      choose false false false e g =
          ap₂ (λ x y. x ++ repeated_code least most y) (take-append_seam c f) (drop-append_seam c f)
          ∙ ap (λ x. c ++ x) (sym (repeated_plan_code item f h least most Nothing ∙ append-nil (repeated_code least most f)))

  -- a fragment that stands once
  once_is : (c : List Instruction) (n : ℕ) → c ++ fragment n f ≡ c ++ code (piece item n 1 (Some 1) Nothing)
  once_is c n = choose (n == 0) (nat_lt 65536 (n * 1)) refl
    where
      choose : (z b : Bool) → (n == 0) ≡ z → c ++ cond z [] f ≡ c ++ code (cond (n * 1 == 0) Nothing (cond b (item false false Nothing) (repeated item 1 (Some 1) Nothing)))
      choose true b e = let g : n * 1 == 0 ≡ true = eq-eqb (n * 1) 0 (zero_product n 1 (eqb-true n 0 e)) in rw g refl
      choose false true e = let g : n * 1 == 0 ≡ false = ne_eqb (n * 1) 0 (λ x. eqb-false n 0 e (omega arith)) in rw g (ap (λ x. c ++ x) (sym h.one))
      choose false false e = let g : n * 1 == 0 ≡ false = ne_eqb (n * 1) 0 (λ x. eqb-false n 0 e (omega arith)) in rw g (ap (λ x. c ++ x) (sym h.one))

  -- behind a quantifier
  times_done : (b : Built) (c : List Instruction) (a : Around) (n least : ℕ) (most : Option ℕ) → Ready b c f a n
      → Done (after_times least most b) (c ++ code (piece item n least most Nothing)) a (n * kept_copies least most)
  times_done b c a n least most r = record {
    code_is = ap (λ x. piece_code x b.code (b.last * kept_copies least most) least most) r.start_is
        ∙ ap (λ x. piece_code (length c) x (b.last * kept_copies least most) least most) r.code_is
        ∙ ap (λ x. piece_code (length c) (c ++ fragment n f) (x * kept_copies least most) least most) r.last_is
        ∙ repeated_is c n least most;
    around_is = r.around_is;
    last_is = ap (λ x. cap_count (x * kept_copies least most)) r.last_is ∙ (same_zero n (kept_copies least most)).1.1;
  }

  once_done : (b : Built) (c : List Instruction) (a : Around) (n : ℕ) → Ready b c f a n
      → Done b (c ++ code (piece item n 1 (Some 1) Nothing)) a (n * 1)
  once_done b c a n r = record {
    code_is = r.code_is ∙ once_is c n;
    around_is = r.around_is;
    last_is = r.last_is ∙ ap cap_count (let z : n ≡ n * 1 = omega arith in z);
  }

  -- behind the tokens of a quantifier
  pub quantifier_done : (q : Quantifier) (at : ℕ) (more : List Token) (b : Built) (c : List Instruction) (a : Around) (n : ℕ) → Ready b c f a n
      → (d : Built) × (build_behind at (quantifier_tokens_then q more) b ≡ build_behind (at + quantifier_width q) more d)
      × Done d (c ++ code (piece item n (least_of q) (most_of q) Nothing)) a (n * copies q)
  quantifier_done Once at more b c a n r =
      (b, ap (λ i. build_behind i more b) (let z : at ≡ at + 0 = omega arith in z), once_done b c a n r)
  quantifier_done Optional at more b c a n r = (after_times 0 (Some 1) b, refl, times_done b c a n 0 (Some 1) r)
  quantifier_done AnyNumber at more b c a n r = (after_times 0 None b, refl, times_done b c a n 0 None r)
  quantifier_done OneOrMore at more b c a n r = (after_times 1 None b, refl, times_done b c a n 1 None r)
  quantifier_done (Exactly m) at more b c a n r = (after_times (least_of (Exactly m)) (most_of (Exactly m)) b, refl, times_done b c a n (least_of (Exactly m)) (most_of (Exactly m)) r)
  quantifier_done (AtLeast m) at more b c a n r = (after_times (least_of (AtLeast m)) None b, refl, times_done b c a n (least_of (AtLeast m)) None r)
  quantifier_done (Between l m) at more b c a n r = (after_times (least_of (Between l m)) (most_of (Between l m)) b, refl, times_done b c a n (least_of (Between l m)) (most_of (Between l m)) r)

-- behind the tokens of an atom
items_built : (items : List ClassMember) (at : ℕ) (more : List Token) (b : Built) → build_behind at (items_tokens_then items more) b ≡ build_behind (at + items_width items) more b
items_built [] at more b = ap (λ i. build_behind i more b) (let z : at ≡ at + 0 = omega arith in z)
items_built (OneItem s ∷ items) at more b = items_built items (at + 1) more b ∙ ap (λ i. build_behind i more b) (let z : at + 1 + items_width items ≡ at + (1 + items_width items) = omega arith in z)
items_built (Range low high ∷ items) at more b =
    items_built items (at + 1 + 1) more b ∙ ap (λ i. build_behind i more b) (let z : at + 1 + 1 + items_width items ≡ at + (2 + items_width items) = omega arith in z)
items_built (Spaces ∷ items) at more b =
    items_built items (at + 1 + 1 + 1) more b ∙ ap (λ i. build_behind i more b) (let z : at + 1 + 1 + 1 + items_width items ≡ at + (3 + items_width items) = omega arith in z)
items_built (Hyphen ∷ items) at more b = items_built items (at + 1) more b ∙ ap (λ i. build_behind i more b) (let z : at + 1 + items_width items ≡ at + (1 + items_width items) = omega arith in z)

atom_built : (a : Atom) (at : ℕ) (more : List Token) (b : Built) → build_behind at (atom_tokens_then a more) b ≡ build_behind (at + atom_width a) more (after_atom at b)
atom_built (Class negated items) at more b =
    items_built items (at + 1) more (after_atom at b) ∙ ap (λ i. build_behind i more (after_atom at b)) (let z : at + 1 + items_width items ≡ at + suc (items_width items) = omega arith in z)
atom_built (Character c) at more b = refl
atom_built Dot at more b = refl
atom_built (Escape letter) at more b = refl
atom_built Space at more b = refl

atom_ready : (at : ℕ) (b : Built) → Ready (after_atom at b) b.code (Take at false false ∷ []) (around b) 1
atom_ready at b = record { code_is = refl; around_is = refl; last_is = refl; start_is = refl }

-- behind the end of a group
capped_zero : (n : ℕ) → (cap_count n == 0) ≡ (n == 0)
capped_zero zero = refl
capped_zero (suc n) = ne_eqb (cap_count (suc n)) 0 (λ e. absurd (omega arith)) ∙ sym (ne_eqb (suc n) 0 (λ e. absurd (omega arith)))

-- the code of a group whose branches are p: it begins behind c
wrapped_is : (c : List Instruction) (p : Plan) (empty : Bool) → wrapped_group (length c) empty ((c ++ Open 0 false false ∷ []) ++ code p) ≡ c ++ group_code p empty
wrapped_is c p empty =
    ap (λ x. wrapped_group (length c) empty x) (append_assoc c (Open 0 false false ∷ []) (code p))
    ∙ ap (λ x. cond (is_item x) (take (length c) whole ++ flagged_first empty false x) (set whole (length c) (Open (length whole - length c - 1) empty false) ++ Close ∷ [])) inner
    ∙ ap (λ x. cond x (take (length c) whole ++ flagged_first empty false (code p)) (set whole (length c) (Open (length whole - length c - 1) empty false) ++ Close ∷ [])) (item_single p)
    ∙ choose (single p)
  where
    whole : List Instruction
    whole = c ++ Open 0 false false ∷ code p

    inner : drop (length c + 1) whole ≡ code p
    inner = sym (drop-drop 1 (length c) whole) ∙ ap (λ x. drop 1 x) (drop-append_seam c (Open 0 false false ∷ code p))

    inside : length whole - length c - 1 ≡ size p
    inside = let l = length-append c (Open 0 false false ∷ code p) in let s = code_length p [] in omega arith

    choose : (z : Bool) → cond z (take (length c) whole ++ flagged_first empty false (code p)) (set whole (length c) (Open (length whole - length c - 1) empty false) ++ Close ∷ [])
        ≡ c ++ cond z (flagged_first empty false (code p)) (Open (size p) empty false ∷ (code p ++ Close ∷ []))
    choose true = ap (λ x. x ++ flagged_first empty false (code p)) (take-append_seam c (Open 0 false false ∷ code p))
    choose false =
        ap (λ l. set whole (length c) (Open l empty false) ++ Close ∷ []) inside
        ∙ ap (λ x. x ++ Close ∷ []) (set-append_seam c (Open 0 false false) (code p) (Open (size p) empty false))
        ∙ append_assoc c (Open (size p) empty false ∷ code p) (Close ∷ [])

-- what the tokens of a branch leave
pub record Behind (b d : Built) (p : Plan) (n : ℕ) : Type 0 where
  pub code_is : d.code ≡ b.code ++ code p
  pub begun_is : d.begun ≡ b.begun
  pub sum_is : sum_of d ≡ cap_count (sum_of b + n)
  pub branch_is : d.branch ≡ b.branch
  pub empty_is : d.empty ≡ b.empty

-- the code without a last bar behind which nothing is kept, and whether an empty branch was left out
abbrev trimmed : Built → List Instruction
trimmed d = cond (is_branch_empty d) (take (d.branch - 1) d.code) d.code

abbrev gapped : Built → Bool
gapped d = is_branch_empty d || d.empty

-- what the tokens of branches leave, the first of which begins here: p is what is kept of them, and empty whether one is left out
pub record Left (b d : Built) (p : Plan) (empty : Bool) (n : ℕ) : Type 0 where
  pub begun_is : d.begun ≡ b.begun
  pub sum_is : sum_of d ≡ cap_count (sum_of b + n)
  pub none : is_nothing p ≡ true → (d.code ≡ b.code) × (d.branch ≡ length b.code)
  pub some : is_nothing p ≡ false → (trimmed d ≡ b.code ++ code p) × (gapped d ≡ (empty || b.empty))

-- one branch
left_one : (b d : Built) (p : Plan) (n : ℕ) → b.branch ≡ length b.code → Behind b d p n → Left b d p false n
left_one b d p n e h = record {
  begun_is = h.begun_is;
  sum_is = h.sum_is;
  none = λ z. (h.code_is ∙ ap (λ c. b.code ++ c) (nothing_code p z) ∙ append-nil b.code, h.branch_is ∙ e);
  some = λ z. let f = longer z in (ap (λ x. cond x (take (d.branch - 1) d.code) d.code) f ∙ h.code_is, ap (λ x. x || d.empty) f ∙ h.empty_is);
}
  where
    longer : is_nothing p ≡ false → is_branch_empty d ≡ false
    longer z = ne_eqb (length d.code) d.branch (λ x. absurd (
        let l : length d.code ≡ length b.code + length (code p) = ap length h.code_is ∙ length-append b.code (code p) in
        let k = code_length p [] in
        let s = some_size p z in
        let y : d.branch ≡ length b.code = h.branch_is ∙ e in
        omega arith
        ))

-- behind a bar, by whether the branch before it is empty
barred : Bool → Built → Built
barred true b = record { code = b.code; begun = b.begun; total = sum_of b; last = 0; start = 0; branch = b.branch; empty = true }
barred false b = record { code = b.code ++ Bar ∷ []; begun = b.begun; total = sum_of b; last = 0; start = 0; branch = length b.code + 1; empty = b.empty }

barred_is : (b : Built) (x : Bool) → is_branch_empty b ≡ x → after_bar b ≡ barred x b
unfolding barred
barred_is b true e = ap (λ y. cond y (barred true b) (barred false b)) e
barred_is b false e = ap (λ y. cond y (barred true b) (barred false b)) e

bar_sum : (s x y : ℕ) → cap_count (cap_count (cap_count (s + x) + 0) + y) ≡ cap_count (s + (x + y))
bar_sum s x y = omega arith

-- a branch and those after it
join_left : (b d e : Built) (p q : Plan) (empty : Bool) (m n : ℕ) (x y : Bool) → is_nothing p ≡ x → is_nothing q ≡ y → b.branch ≡ length b.code
    → Behind b d p m → Left (barred x d) e q empty n → Left b e (cond x q (cond y p (Either p q))) (x || (y || empty)) (m + n)
unfolding barred
join_left b d e p q empty m n true y i j f h k = record {
  begun_is = k.begun_is ∙ h.begun_is;
  sum_is = k.sum_is ∙ ap (λ s. cap_count (cap_count (s + 0) + n)) h.sum_is ∙ bar_sum (sum_of b) m n;
  none = λ z. ((k.none z).0 ∙ same, (k.none z).1 ∙ ap length same);
  some = λ z. ((k.some z).0 ∙ ap (λ c. c ++ code q) same, (k.some z).1 ∙ or_true empty);
}
  where
    same : d.code ≡ b.code
    same = h.code_is ∙ ap (λ c. b.code ++ c) (nothing_code p i) ∙ append-nil b.code
join_left b d e p q empty m n false true i j f h k = record {
  begun_is = k.begun_is ∙ h.begun_is;
  sum_is = k.sum_is ∙ ap (λ s. cap_count (cap_count (s + 0) + n)) h.sum_is ∙ bar_sum (sum_of b) m n;
  none = λ z. absurd (cc);
  some = λ z. (
    ap (λ t. cond t (take (e.branch - 1) e.code) e.code) at_end
        ∙ ap₂ (λ t c. take (t - 1) c) (k.none j).1 (k.none j).0
        ∙ ap (λ t. take t (d.code ++ Bar ∷ [])) (let l = length-append d.code (Bar ∷ []) in let g : length (d.code ++ Bar ∷ []) - 1 ≡ length d.code = omega arith in g)
        ∙ take-append_seam d.code (Bar ∷ []) ∙ h.code_is,
    ap (λ t. t || e.empty) at_end,
  );
}
  where
    at_end : is_branch_empty e ≡ true
    at_end = eq-eqb (length e.code) e.branch (ap length (k.none j).0 ∙ sym (k.none j).1)
join_left b d e p q empty m n false false i j f h k = record {
  begun_is = k.begun_is ∙ h.begun_is;
  sum_is = k.sum_is ∙ ap (λ s. cap_count (cap_count (s + 0) + n)) h.sum_is ∙ bar_sum (sum_of b) m n;
  none = λ z. absurd (cc);
  some = λ z. (
    (k.some j).0 ∙ ap (λ c. (c ++ Bar ∷ []) ++ code q) h.code_is
        ∙ append_assoc (b.code ++ code p) (Bar ∷ []) (code q)
        ∙ append_assoc b.code (code p) (Bar ∷ code q)
        ∙ ap (λ c. b.code ++ c) (sym (code_split p (Bar ∷ code q))),
    (k.some j).1 ∙ ap (λ t. empty || t) h.empty_is,
  );
}

-- the next branch begins behind the bar
bar_here : (b d : Built) (p : Plan) (m : ℕ) (x : Bool) → is_nothing p ≡ x → b.branch ≡ length b.code → Behind b d p m
    → (after_bar d ≡ barred x d) × ((barred x d).branch ≡ length (barred x d).code)
unfolding barred
bar_here b d p m true i f h =
    let l : d.branch ≡ length d.code = h.branch_is ∙ f ∙ ap length (sym (h.code_is ∙ ap (λ c. b.code ++ c) (nothing_code p i) ∙ append-nil b.code)) in
    (barred_is d true (eq-eqb (length d.code) d.branch (sym l)), l)
bar_here b d p m false i f h =
    (barred_is d false (longer i), sym (length-append d.code (Bar ∷ [])))
  where
    longer : is_nothing p ≡ false → is_branch_empty d ≡ false
    longer z = ne_eqb (length d.code) d.branch (λ x. absurd (
        let l : length d.code ≡ length b.code + length (code p) = ap length h.code_is ∙ length-append b.code (code p) in
        let k = code_length p [] in
        let s = some_size p z in
        let y : d.branch ≡ length b.code = h.branch_is ∙ f in
        omega arith
        ))

-- behind the end of a group of n positions
closed_is : (b d : Built) (p : Plan) (empty : Bool) (n : ℕ) → is_nothing p ≡ (n == 0) → Left (after_open b) d p empty n
    → closed_code (length b.code) d.branch d.empty d.code (cap_count n) ≡ b.code ++ fragment n (group_code p empty)
closed_is b d p empty n i h =
    ap (λ x. cond x (take (length b.code) d.code) (cond (is_branch_empty d) (wrapped_group (length b.code) true (take (d.branch - 1) d.code)) (wrapped_group (length b.code) d.empty d.code))) (capped_zero n)
    ∙ choose (n == 0) refl
  where
    by_branch : (x : Bool) → cond x (wrapped_group (length b.code) true (take (d.branch - 1) d.code)) (wrapped_group (length b.code) d.empty d.code)
        ≡ wrapped_group (length b.code) (x || d.empty) (cond x (take (d.branch - 1) d.code) d.code)
    by_branch true = refl
    by_branch false = refl

    choose : (z : Bool) → (n == 0) ≡ z
        → cond z (take (length b.code) d.code) (cond (is_branch_empty d) (wrapped_group (length b.code) true (take (d.branch - 1) d.code)) (wrapped_group (length b.code) d.empty d.code))
        ≡ b.code ++ cond z [] (group_code p empty)
    choose true z = ap (λ c. take (length b.code) c) (h.none (i ∙ z)).0 ∙ take-append_seam b.code (Open 0 false false ∷ []) ∙ sym (append-nil b.code)
    choose false z =
        by_branch (is_branch_empty d)
        ∙ ap₂ (λ x c. wrapped_group (length b.code) x c) ((h.some (i ∙ z)).1 ∙ or_false empty) (h.some (i ∙ z)).0
        ∙ wrapped_is b.code p empty

group_ready : (b d : Built) (p : Plan) (empty : Bool) (n : ℕ) → is_nothing p ≡ (n == 0) → Left (after_open b) d p empty n
    → Ready (after_close d) b.code (group_code p empty) (around b) n
group_ready b d p empty n i h =
    subst (λ x. Ready (after_close_of x d) b.code (group_code p empty) (around b) n) (sym h.begun_is)
    (record {
      code_is = ap (λ x. closed_code (length b.code) d.branch d.empty d.code x) sum ∙ closed_is b d p empty n i h;
      around_is = refl;
      last_is = sum;
      start_is = refl;
    })
  where
    zero_sum : (n : ℕ) → cap_count (cap_count (0 + 0) + n) ≡ cap_count n
    zero_sum n = omega arith

    sum : sum_of d ≡ cap_count n
    sum = h.sum_is ∙ zero_sum n

capped_twice : (s x y : ℕ) → cap_count (cap_count (s + cap_count x) + y) ≡ cap_count (s + (x + y))
capped_twice s x y = omega arith

-- a piece and the rest
piece_behind : (item : Bool → Bool → Plan → Plan) (f : List Instruction) → ItemCode item f → (b d e : Built) (n least : ℕ) (most : Option ℕ) (rest : Plan) (x y : ℕ)
    → Done d (b.code ++ code (piece item n least most Nothing)) (around b) x → Behind d e rest y → Behind b e (piece item n least most rest) (x + y)
piece_behind item f h b d e n least most rest x y r k = record {
  code_is = k.code_is ∙ ap (λ c. c ++ code rest) r.code_is ∙ append_assoc b.code (code (piece item n least most Nothing)) (code rest)
      ∙ ap (λ c. b.code ++ c) (sym (piece_split item f h n least most rest));
  begun_is = k.begun_is ∙ ap (λ a. a.begun) r.around_is;
  sum_is = k.sum_is ∙ ap₂ (λ s t. cap_count (cap_count (s + t) + y)) (ap (λ a. a.total) r.around_is) r.last_is ∙ capped_twice (sum_of b) x y;
  branch_is = k.branch_is ∙ ap (λ a. a.branch) r.around_is;
  empty_is = k.empty_is ∙ ap (λ a. a.empty) r.around_is;
}

-- what the tokens of a tree leave: of a branch, and of branches
abbrev BuildsBranch : Expression → ℕ → List Token → Type 0
BuildsBranch t k more = (b : Built) → (d : Built) × (build_behind k (tokens_then t more) b ≡ build_behind (k + width t) more d) × Behind b d (plan t k) (positions t)

abbrev Builds : Expression → ℕ → List Token → Type 0
Builds t k more =
    (b : Built) → b.branch ≡ length b.code → (d : Built) × (build_behind k (tokens_then t more) b ≡ build_behind (k + width t) more d) × Left b d (plan t k) (gap t) (positions t)

record BuildsTree (t : Expression) (k : ℕ) (more : List Token) : Type 0 where
  branch : IsBranch t → BuildsBranch t k more
  all : Builds t k more

of_branch : (t : Expression) (k : ℕ) (more : List Token) → IsBranch t → BuildsBranch t k more → BuildsTree t k more
of_branch t k more v h = record {
  branch = λ z. h;
  all = λ b e. let r = h b in (r.0, r.1, subst (λ g. Left b r.0 (plan t k) g (positions t)) (sym (branch_gap t v)) (left_one b r.0 (plan t k) (positions t) e r.2));
}

empty_built : (k : ℕ) (more : List Token) → BuildsBranch Empty k more
empty_built k more b = (
  b,
  ap (λ i. build_behind i more b) (let z : k ≡ k + 0 = omega arith in z),
  record {
    code_is = sym (append-nil b.code);
    begun_is = refl;
    sum_is = sum_same (b.total + b.last);
    branch_is = refl;
    empty_is = refl;
  },
)
  where
    sum_same : (x : ℕ) → cap_count x ≡ cap_count (cap_count x + 0)
    sum_same x = omega arith

piece_built : (a : Atom) (q : Quantifier) (r : Expression) (k : ℕ) (more : List Token) → BuildsBranch r (k + (atom_width a + quantifier_width q)) more
    → BuildsBranch (Piece a q r) k more
piece_built a q r k more rest b =
    let d = quantifier_done (One k) (Take k false false ∷ []) (one_item k) q (k + atom_width a) (tokens_then r more) (after_atom k b) b.code (around b) 1 (atom_ready k b) in
    let e = rest d.0 in (
      e.0,
      atom_built a k (quantifier_tokens_then q (tokens_then r more)) b ∙ d.1
          ∙ ap (λ i. build_behind i (tokens_then r more) d.0) (let z : k + atom_width a + quantifier_width q ≡ k + (atom_width a + quantifier_width q) = omega arith in z)
          ∙ e.1 ∙ ap (λ i. build_behind i more e.0) (let z : k + (atom_width a + quantifier_width q) + width r ≡ k + (atom_width a + (quantifier_width q + width r)) = omega arith in z),
      subst (λ x. Behind b e.0 (plan (Piece a q r) k) (x + positions r)) (let z : 1 * copies q ≡ copies q = omega arith in z)
          (piece_behind (One k) (Take k false false ∷ []) (one_item k) b d.0 e.0 1 (least_of q) (most_of q) (plan r (k + (atom_width a + quantifier_width q))) (1 * copies q) (positions r) d.2 e.2),
    )

group_built : (p : Expression) (q : Quantifier) (r : Expression) (k : ℕ) (more : List Token)
    → Builds p (suc k) (CloseToken ∷ quantifier_tokens_then q (tokens_then r more))
    → BuildsBranch r (suc k + (width p + suc (quantifier_width q))) more → BuildsBranch (Group p q r) k more
group_built p q r k more within rest b =
    let g = within (after_open b) (sym (length-append b.code (Open 0 false false ∷ []))) in
    let F = group_code (plan p (suc k)) (gap p) in
    let I = group (plan p (suc k)) (gap p) in
    let ready = group_ready b g.0 (plan p (suc k)) (gap p) (positions p) (plan_nothing p (suc k)) g.2 in
    let d = quantifier_done I F (group_item (plan p (suc k)) (gap p)) q (suc k + width p + 1) (tokens_then r more) (after_close g.0) b.code (around b) (positions p) ready in
    let e = rest d.0 in (
      e.0,
      ap (λ j. build_behind j (tokens_then p (CloseToken ∷ quantifier_tokens_then q (tokens_then r more))) (after_open b)) (let z : k + 1 ≡ suc k = omega arith in z)
          ∙ g.1 ∙ d.1
          ∙ ap (λ j. build_behind j (tokens_then r more) d.0) (let z : suc k + width p + 1 + quantifier_width q ≡ suc k + (width p + suc (quantifier_width q)) = omega arith in z)
          ∙ e.1 ∙ ap (λ j. build_behind j more e.0) (let z : suc k + (width p + suc (quantifier_width q)) + width r ≡ k + suc (width p + suc (quantifier_width q + width r)) = omega arith in z),
      piece_behind I F (group_item (plan p (suc k)) (gap p)) b d.0 e.0 (positions p) (least_of q) (most_of q) (plan r (suc k + (width p + suc (quantifier_width q))))
          (positions p * copies q) (positions r) d.2 e.2,
    )

choice_built : (l r : Expression) (k : ℕ) (more : List Token) → BuildsBranch l k (BarToken ∷ tokens_then r more) → Builds r (k + suc (width l)) more
    → Builds (Choice l r) k more
choice_built l r k more first rest b f =
    let d = first b in
    let n : is_nothing (plan l k) ≡ (positions l == 0) = plan_nothing l k in
    let h = bar_here b d.0 (plan l k) (positions l) (is_nothing (plan l k)) refl f d.2 in
    let e = rest (barred (is_nothing (plan l k)) d.0) h.1 in (
      e.0,
      d.1 ∙ ap (λ j. build_behind j (tokens_then r more) (after_bar d.0)) (let z : k + width l + 1 ≡ k + suc (width l) = omega arith in z)
          ∙ ap (λ x. build_behind (k + suc (width l)) (tokens_then r more) x) h.0
          ∙ e.1 ∙ ap (λ j. build_behind j more e.0) (let z : k + suc (width l) + width r ≡ k + (width l + suc (width r)) = omega arith in z),
      subst (λ x. Left b e.0 (plan (Choice l r) k) x (positions (Choice l r)))
          (ap₂ (λ x y. x || (y || gap r)) n (plan_nothing r (k + suc (width l))))
          (join_left b d.0 e.0 (plan l k) (plan r (k + suc (width l))) (gap r) (positions l) (positions r)
          (is_nothing (plan l k)) (is_nothing (plan r (k + suc (width l)))) refl refl f d.2 e.2),
    )

tree_built : (t : Expression) (k : ℕ) (more : List Token) → IsExpression t → BuildsTree t k more
tree_built Empty k more v = of_branch Empty k more tt (empty_built k more)
tree_built (Piece a q r) k more v =
    of_branch (Piece a q r) k more tt (piece_built a q r k more ((tree_built r (k + (atom_width a + quantifier_width q)) more v.3).branch v.2))
tree_built (Group p q r) k more v =
    of_branch (Group p q r) k more tt
    (group_built p q r k more ((tree_built p (suc k) (CloseToken ∷ quantifier_tokens_then q (tokens_then r more)) v.0).all)
    ((tree_built r (suc k + (width p + suc (quantifier_width q))) more v.3).branch v.2))
tree_built (Choice l r) k more v = record {
  branch = λ z. absurd z;
  all = choice_built l r k more ((tree_built l k (BarToken ∷ tokens_then r more) v.1).branch v.0) ((tree_built r (k + suc (width l)) more v.2).all);
}

-- the code and the positions of a whole pattern
pub whole_built : (t : Expression) → IsExpression t
    → ((built_whole (tokens_then t [])).code ≡ code (whole t)) × ((built_whole (tokens_then t [])).last ≡ cap_count (positions t))
whole_built t v =
    let g = (tree_built t 0 [] v).all (after_open nothing_built) refl in
    let r = group_ready nothing_built g.0 (plan t 0) (gap t) (positions t) (plan_nothing t 0) g.2 in
    let d = once_done (group (plan t 0) (gap t)) (group_code (plan t 0) (gap t)) (group_item (plan t 0) (gap t)) (after_close g.0) [] (around nothing_built) (positions t) r in
    (ap (λ b. (after_close b).code) g.1 ∙ d.code_is, ap (λ b. (after_close b).last) g.1 ∙ r.last_is)
