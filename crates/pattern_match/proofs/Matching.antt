-- The marks of a matcher tell the words of a pattern.
use Rattle.std.proofs.Common.{◌≡◌, ℕ, zero, suc, ◌+◌, ◌-◌, ◌*◌, ◌≤◌, ◌↔◌, Bool, true, false, cond, ◌==◌, nat_lt, IsTrue, Option, Some, None, List, [], ◌∷◌, ◌++◌, length, replicate, get_or, refl, sym, ap, ap₂, ◌∙◌, subst, arith, inl, inr, append-nil, append_assoc, zero-add, suc-add}
use Rattle.std.specs.Str.{chars}
use Rattle.pattern_match.specs.Expression.{Expression, Empty, Piece, Group, Choice, Once}
use Rattle.pattern_match.specs.Valid.{IsExpression, IsBranch}
use Rattle.pattern_match.specs.Positions.{positions}
use Rattle.pattern_match.specs.Language.{IsBoth, Lang, IsQuantified, Repeats}
use Rattle.pattern_match.specs.Reading.{IsTreeOf, HasPositionsWithin, Matches, IsDecided}
use Rattle.pattern_match.specs.inner.Plan.{Plan, Nothing, One, Many, Either, size, Flagged, IsTakenAt, PlanLang, BeginsPart, Ends, Marked, IsOneBranch, IsPlan}
use Rattle.pattern_match.specs.Marking.{first_pass, second_pass}
use Rattle.pattern_match.specs.Token.{admits}
use Rattle.pattern_match.specs.Building.{position_limit}
use Rattle.pattern_match.specs.Compiled.{tokens_of_text, code_of_text, IsCompiled, first_marks, next_marks, marks_from, follows, IsMarked}
use Rattle.pattern_match.specs.declared.instruction.Instruction.{Instruction}
use Rattle.pattern_match.specs.declared.instruction.Frame.{Frame}
use Rattle.pattern_match.specs.declared.token.Token.{Token}
use Rattle.pattern_match.proofs.Words.{empty_ends}
use Rattle.pattern_match.proofs.PassLemmas.{Hit, first_holds, second_holds}
use Rattle.pattern_match.proofs.Planning.{least_of, most_of, copies_of, iterate, repeated, piece, piece_holds, no_positions, iff_both}
use Rattle.pattern_match.proofs.Tokens.{tokens_then, width}
use Rattle.pattern_match.proofs.Flags.{flagged_both}
use Rattle.pattern_match.proofs.Grouping.{group, group_plan, group_lang, branches_plan}
use Rattle.pattern_match.proofs.PlanOf.{gap, plan, whole, plan_lang, Takes}
use Rattle.pattern_match.proofs.PlanCode.{code, code_length}
use Rattle.pattern_match.proofs.Judging.{tree_tokens, tree_code, all_small}

-- the lengths of the marks
pub first_length : (admits : ℕ → Bool) (c : List Instruction) (marks : List Bool) (live : Bool) (frames : List Frame)
    → length c ≤ length marks → length (first_pass admits c marks live frames) ≡ length marks
first_length a [] marks live frames l = refl
first_length a (i ∷ c) [] live frames l = absurd (omega arith)
first_length a (i ∷ c) (m ∷ marks) live frames l = ap suc (first_length a c marks _ _ (omega arith))

pub second_length : (c : List Instruction) (hits : List Bool) (live : Bool) (frames : List Frame) → length hits ≡ length c + 1 → length (second_pass c hits live frames) ≡ length c + 1
second_length [] hits live frames l = refl
second_length (i ∷ c) [] live frames l = absurd (omega arith)
second_length (i ∷ c) (h ∷ hits) live frames l = ap suc (second_length c hits _ _ (omega arith)) ∙ (let z : suc (length c + 1) ≡ suc (length c) + 1 = omega arith in z)

replicate_length : (n : ℕ) → length (replicate n false) ≡ n
replicate_length zero = refl
replicate_length (suc n) = ap suc (replicate_length n)

next_length : (tokens : List Token) (c : List Instruction) (x : ℕ) (marks : List Bool) → length marks ≡ length c + 1 → length (next_marks tokens c x marks) ≡ length c + 1
next_length tokens c x marks l =
    second_length c (first_pass (λ at. admits tokens at x) c marks false []) false []
    (first_length (λ at. admits tokens at x) c marks false [] (omega arith) ∙ l)

marks_length : (tokens : List Token) (c : List Instruction) (w : List ℕ) (marks : List Bool) → length marks ≡ length c + 1 → length (marks_from tokens c marks w) ≡ length c + 1
marks_length tokens c [] marks l = l
marks_length tokens c (x ∷ w) marks l = marks_length tokens c w (next_marks tokens c x marks) (next_length tokens c x marks l)

pub read_length : (tokens : List Token) (c : List Instruction) (w : List ℕ) → length (marks_from tokens c (first_marks c) w) ≡ length c + 1
read_length tokens c w = marks_length tokens c w (first_marks c) (second_length c (replicate (length c + 1) false) true [] (replicate_length (length c + 1)))

-- one more character
pub marks_snoc : (tokens : List Token) (c : List Instruction) (w : List ℕ) (x : ℕ) (marks : List Bool)
    → marks_from tokens c marks (w ++ x ∷ []) ≡ next_marks tokens c x (marks_from tokens c marks w)
marks_snoc tokens c [] x marks = refl
marks_snoc tokens c (y ∷ w) x marks = marks_snoc tokens c w x (next_marks tokens c y marks)

-- the plan of a tree is one
abbrev PlanItem : (Bool → Bool → Plan → Plan) → Type 0
PlanItem item = (o r : Bool) (rest : Plan) → IsOneBranch rest → IsPlan rest → IsPlan (item o r rest) × IsOneBranch (item o r rest)

iterate_plan : (item : Bool → Bool → Plan → Plan) → PlanItem item → (o r : Bool) (n : ℕ) (rest : Plan) → IsOneBranch rest → IsPlan rest
    → IsPlan (iterate n (item o r) rest) × IsOneBranch (iterate n (item o r) rest)
iterate_plan item h o r zero rest b p = (p, b)
iterate_plan item h o r (suc n) rest b p = let i = iterate_plan item h o r n rest b p in h o r (iterate n (item o r) rest) i.1 i.0

repeated_is_plan : (item : Bool → Bool → Plan → Plan) → PlanItem item → (least : ℕ) (most : Option ℕ) (rest : Plan) → IsOneBranch rest → IsPlan rest
    → IsPlan (repeated item least most rest) × IsOneBranch (repeated item least most rest)
repeated_is_plan item h least (Some most) rest b p =
    let i = iterate_plan item h true false (most - least) rest b p in iterate_plan item h false false least (iterate (most - least) (item true false) rest) i.1 i.0
repeated_is_plan item h zero None rest b p = h true true rest b p
repeated_is_plan item h (suc n) None rest b p = let i = h false true rest b p in iterate_plan item h false false n (item false true rest) i.1 i.0

piece_is_plan : (item : Bool → Bool → Plan → Plan) → PlanItem item → (n least : ℕ) (most : Option ℕ) (rest : Plan) → IsOneBranch rest → IsPlan rest
    → IsPlan (piece item n least most rest) × IsOneBranch (piece item n least most rest)
piece_is_plan item h n least most rest b p = choose (n * copies_of least most == 0) (nat_lt 65536 (n * copies_of least most))
  where
    choose : (x y : Bool) → IsPlan (cond x rest (cond y (item false false rest) (repeated item least most rest)))
        × IsOneBranch (cond x rest (cond y (item false false rest) (repeated item least most rest)))
    choose true y = (p, b)
    choose false true = h false false rest b p
    choose false false = repeated_is_plan item h least most rest b p

one_plan : (k : ℕ) → PlanItem (One k)
one_plan k o r rest b p = ((b, p), tt)

abbrev pub PlanFor : Expression → Plan → Type 0
PlanFor t p = IsPlan p × (IsBranch t → IsOneBranch p)

pub tree_plan : (t : Expression) (k : ℕ) → IsExpression t → PlanFor t (plan t k)
tree_plan Empty k v = (tt, λ b. tt)
tree_plan (Piece a q r) k v =
    let i = tree_plan r _ v.3 in
    let j = piece_is_plan (One k) (one_plan k) 1 (least_of q) (most_of q) _ (i.1 v.2) i.0 in (j.0, λ b. j.1)
tree_plan (Group g q r) k v =
    let h = tree_plan g (suc k) v.0 in
    let i = tree_plan r _ v.3 in
    let j = piece_is_plan (group (plan g (suc k)) (gap g)) (group_plan (plan g (suc k)) (gap g) h.0) (positions g) (least_of q) (most_of q) _ (i.1 v.2) i.0 in (j.0, λ b. j.1)
tree_plan (Choice l r) k v =
    let h = tree_plan l k v.1 in
    let i = tree_plan r _ v.2 in
    (branches_plan (plan l k) (plan r (k + suc (width l))) (h.1 v.0) h.0 i.0, λ b. absurd b)

whole_plan : (t : Expression) → IsExpression t → IsPlan (whole t) × IsOneBranch (whole t)
whole_plan t v = piece_is_plan (group (plan t 0) (gap t)) (group_plan (plan t 0) (gap t) (tree_plan t 0 v).0) (positions t) 1 (Some 1) Nothing tt tt

-- marks none of which is set, before more
falses : ℕ → List Bool → List Bool
falses zero more = more
falses (suc n) more = false ∷ falses n more

falses_add : (a b : ℕ) (more : List Bool) → falses (a + b) more ≡ falses a (falses b more)
unfolding falses
falses_add zero b more = ap (λ n. falses n more) (zero-add b)
falses_add (suc a) b more = ap (λ n. falses n more) (suc-add a b) ∙ ap (λ x. false ∷ x) (falses_add a b more)

falses_replicate : (n : ℕ) → falses n (false ∷ []) ≡ replicate (suc n) false
unfolding falses
falses_replicate zero = refl
falses_replicate (suc n) = ap (λ x. false ∷ x) (falses_replicate n)

false_not : (P : Type 0) → (P → ⊥) → IsTrue false ↔ P
false_not P n = (λ t. absurd (cc), λ p. absurd (n p))

-- before the first character nothing was hit
hit_none : (a : ℕ → ℕ → Bool) (t : Plan) (A : List ℕ → Type 0) (more : List Bool) → Hit a t A [] (falses (size t) more) more
unfolding falses
hit_none a Nothing A more = refl
hit_none a (One k o r rest) A more = (
  false,
  falses (size rest) more,
  refl,
  false_not (Ends (BeginsPart r A (IsTakenAt (λ at c. IsTrue (a at c)) k)) (IsTakenAt (λ at c. IsTrue (a at c)) k) []) (empty_ends (BeginsPart r A (IsTakenAt (λ at c. IsTrue (a at c)) k)) (IsTakenAt (λ at c. IsTrue (a at c)) k)),
  hit_none a rest (IsBoth A (Flagged o r (IsTakenAt (λ at c. IsTrue (a at c)) k))) more,
)
hit_none a (Many inner o r rest) A more = (
  false,
  falses (size inner) (false ∷ falses (size rest) more),
  false,
  falses (size rest) more,
  ap (λ x. false ∷ x) (falses_add (size inner) (suc (size rest)) more),
  hit_none a inner (BeginsPart r A (PlanLang (λ at c. IsTrue (a at c)) inner)) (false ∷ falses (size rest) more),
  (λ e. absurd (empty_ends (BeginsPart r A (PlanLang (λ at c. IsTrue (a at c)) inner)) (PlanLang (λ at c. IsTrue (a at c)) inner) e)),
  (λ t. absurd (cc)),
  hit_none a rest (IsBoth A (Flagged o r (PlanLang (λ at c. IsTrue (a at c)) inner))) more,
)
hit_none a (Either branch rest) A more =
    subst (λ x. Hit a (Either branch rest) A [] x more) (sym (falses_add (size branch) (suc (size rest)) more))
    (false, falses (size rest) more, hit_none a branch A (false ∷ falses (size rest) more), hit_none a rest A more)

-- the mark that stands behind a plan's
get-behind_marks : (T : ℕ → ℕ → Type 0) (t : Plan) (A : List ℕ → Type 0) (w : List ℕ) (marks more : List Bool) (k : ℕ)
    → Marked T t A w marks more → get_or marks (size t + k) false ≡ get_or more k false
get-behind_marks T Nothing A w marks more k h = ap (λ ms. get_or ms (0 + k) false) h ∙ ap (λ n. get_or more n false) (zero-add k)
get-behind_marks T (One at o r rest) A w marks more k (mark, later, e, i, h) =
    ap (λ ms. get_or ms (suc (size rest) + k) false) e
    ∙ ap (λ n. get_or (mark ∷ later) n false) (suc-add (size rest) k)
    ∙ get-behind_marks T rest (IsBoth A (Flagged o r (IsTakenAt T at))) w later more k h
get-behind_marks T (Many inner o r rest) A w marks more k (mark, within, end, later, e, hi, h) =
    ap (λ ms. get_or ms (suc (size inner + suc (size rest)) + k) false) e
    ∙ ap (λ n. get_or (mark ∷ within) n false) (let z : suc (size inner + suc (size rest)) + k ≡ suc (size inner + suc (size rest + k)) = omega arith in z)
    ∙ get-behind_marks T inner (BeginsPart r A (PlanLang T inner)) w within (end ∷ later) (suc (size rest + k)) hi
    ∙ get-behind_marks T rest (IsBoth A (Flagged o r (PlanLang T inner))) w later more k h
get-behind_marks T (Either branch rest) A w marks more k (mark, later, hb, h) =
    ap (λ n. get_or marks n false) (let z : size branch + suc (size rest) + k ≡ size branch + suc (size rest + k) = omega arith in z)
    ∙ get-behind_marks T branch A w marks (mark ∷ later) (suc (size rest + k)) hb
    ∙ get-behind_marks T rest A w later more k h

-- the start of a word
abbrev AtStart : List ℕ → Type 0
AtStart u = u ≡ []

-- the marks behind a word: each Take has whether its atom may come next, and the last whether the word may end
abbrev Holds : List Token → Plan → List ℕ → List Bool → Type 0
Holds tokens p w marks = (end : Bool) × Marked (Takes tokens) p AtStart w marks (end ∷ []) × (IsTrue end ↔ PlanLang (Takes tokens) p w)

from_start : (P : List ℕ → Type 0) (w : List ℕ) (b : Bool) → (IsTrue b ↔ IsBoth AtStart P w) → (IsTrue b ↔ P w)
from_start P w b h =
    (λ t. let x = h.0 t in let e : w ≡ x.1 = x.2 ∙ ap (λ y. y ++ x.1) x.3 in subst P (sym e) x.4, λ p. h.1 ([], w, refl, refl, p))

snoc_not_nil : (w : List ℕ) (c : ℕ) → w ++ c ∷ [] ≡ [] → ⊥
snoc_not_nil [] c e = cc
snoc_not_nil (x ∷ w) c e = cc

holds_first : (tokens : List Token) (p : Plan) → IsPlan p → IsOneBranch p → Holds tokens p [] (first_marks (code p))
holds_first tokens p v b =
    subst (λ hits. Holds tokens p [] (second_pass (code p) hits true [])) same
    (s.0, s.1, from_start (PlanLang (Takes tokens) p) [] s.0 s.2)
  where
    same : falses (size p) (false ∷ []) ≡ replicate (length (code p) + 1) false
    same = falses_replicate (size p) ∙ ap (λ n. replicate n false) (let l = code_length p [] in let z : suc (size p) ≡ length (code p) + 1 = omega arith in z)

    s : (after : Bool) × Marked (Takes tokens) p AtStart [] (second_pass (code p) (falses (size p) (false ∷ [])) true []) (second_pass [] (false ∷ []) after [])
        × (IsTrue after ↔ IsBoth AtStart (PlanLang (Takes tokens) p) [])
    s = (second_holds (admits tokens) p v).branch b AtStart [] (falses (size p) (false ∷ [])) (false ∷ []) [] true [] (hit_none (admits tokens) p AtStart (false ∷ []))
        (λ t. refl, λ x. refl)

holds_next : (tokens : List Token) (p : Plan) → IsPlan p → IsOneBranch p → (w : List ℕ) (marks : List Bool) (c : ℕ) → Holds tokens p w marks
    → Holds tokens p (w ++ c ∷ []) (next_marks tokens (code p) c marks)
holds_next tokens p v b w marks c (end, m, i) =
    let f = (first_holds (admits tokens) c p v).branch b AtStart w marks (end ∷ []) [] false [] m (λ t. absurd (cc)) in
    let s = (second_holds (admits tokens) p v).branch b AtStart (w ++ c ∷ []) (first_pass (λ at. admits tokens at c) (code p) marks false []) (end ∷ []) [] false [] f.1
    (λ t. absurd (cc), λ x. absurd (snoc_not_nil w c x)) in
    (s.0, s.1, from_start (PlanLang (Takes tokens) p) (w ++ c ∷ []) s.0 s.2)

holds_from : (tokens : List Token) (p : Plan) → IsPlan p → IsOneBranch p → (w u : List ℕ) (marks : List Bool) → Holds tokens p u marks
    → Holds tokens p (u ++ w) (marks_from tokens (code p) marks w)
holds_from tokens p v b [] u marks h = subst (λ x. Holds tokens p x marks) (sym (append-nil u)) h
holds_from tokens p v b (c ∷ w) u marks h =
    subst (λ x. Holds tokens p x (marks_from tokens (code p) (next_marks tokens (code p) c marks) w)) (append_assoc u (c ∷ []) w)
    (holds_from tokens p v b w (u ++ c ∷ []) (next_marks tokens (code p) c marks) (holds_next tokens p v b u marks c h))

-- the plan of a whole pattern has the pattern's words
whole_lang : (t : Expression) → IsExpression t → positions t ≤ position_limit → (w : List ℕ) → PlanLang (Takes (tokens_then t [])) (whole t) w ↔ Lang t w
whole_lang t v l w =
    iff_both
    (piece_holds (Takes (tokens_then t [])) (group (plan t 0) (gap t)) (Lang t) (positions t) Once Nothing tt (let z : positions t * 1 ≤ position_limit = omega arith in z) (λ z. no_positions t v z)
    (λ z o r rest u. group_part o r rest u) w)
    once_lang
  where
    group_part : (o r : Bool) (rest : Plan) (u : List ℕ)
        → PlanLang (Takes (tokens_then t [])) (group (plan t 0) (gap t) o r rest) u ↔ IsBoth (Flagged o r (Lang t)) (PlanLang (Takes (tokens_then t [])) rest) u
    group_part o r rest u =
        iff_both (group_lang (Takes (tokens_then t [])) (plan t 0) (gap t) o r rest u)
        (flagged_both o r (Flagged (gap t) false (PlanLang (Takes (tokens_then t [])) (plan t 0))) (Lang t) (PlanLang (Takes (tokens_then t [])) rest)
        (λ y. plan_lang (tokens_then t []) t 0 [] v l refl tt y) u)

    once_lang : IsBoth (IsQuantified (Lang t) Once) (λ u. u ≡ []) w ↔ Lang t w
    once_lang = (λ x. forth x, λ p. (w, [], sym (append-nil w), (1, refl, (w, [], sym (append-nil w), p, refl)), refl))
      where
        forth : IsBoth (IsQuantified (Lang t) Once) (λ u. u ≡ []) w → Lang t w
        forth (u, x, e, (k, k1, r), z) =
            let r1 : Repeats (Lang t) 1 u = subst (λ j. Repeats (Lang t) j u) k1 r in
            let e1 : w ≡ u = e ∙ ap (λ y. u ++ y) z ∙ append-nil u in
            let e2 : u ≡ r1.0 = r1.2 ∙ ap (λ y. r1.0 ++ y) r1.4 ∙ append-nil r1.0 in
            subst (Lang t) (sym (e1 ∙ e2)) r1.3

-- the last mark tells whether the word is one of the tree
for_tree : (text : List ℕ) (t : Expression) (w : List ℕ) (marks : List Bool) (n : ℕ) → IsTreeOf text t → HasPositionsWithin text position_limit
    → marks ≡ marks_from (tokens_of_text text) (code_of_text text) (first_marks (code_of_text text)) w → n ≡ length (code_of_text text)
    → IsTrue (get_or marks n false) ↔ Lang t w
for_tree text t w marks n h p m l =
    subst (λ b. IsTrue b ↔ Lang t w) (sym last) (iff_both all.2 (whole_lang t h.valid (all_small text t h p) w))
  where
    q : IsPlan (whole t) × IsOneBranch (whole t)
    q = whole_plan t h.valid

    all : Holds (tokens_then t []) (whole t) w (marks_from (tokens_then t []) (code (whole t)) (first_marks (code (whole t))) w)
    all = holds_from (tokens_then t []) (whole t) q.0 q.1 w [] (first_marks (code (whole t))) (holds_first (tokens_then t []) (whole t) q.0 q.1)

    are : marks ≡ marks_from (tokens_then t []) (code (whole t)) (first_marks (code (whole t))) w
    are = m ∙ ap₂ (λ x y. marks_from x y (first_marks y) w) (tree_tokens text t h) (tree_code text t h)

    long : n ≡ size (whole t) + 0
    long = l ∙ ap length (tree_code text t h) ∙ code_length (whole t) []

    last : get_or marks n false ≡ all.0
    last = ap₂ (λ x y. get_or x y false) are long
        ∙ get-behind_marks (Takes (tokens_then t [])) (whole t) AtStart w (marks_from (tokens_then t []) (code (whole t)) (first_marks (code (whole t))) w) (all.0 ∷ []) 0 all.1

-- the last mark tells whether the word is one of the pattern
pub accepts_is : (bytes : List ℕ) (tokens : List Token) (c : List Instruction) (marks : List Bool) (w : List ℕ) → IsCompiled bytes tokens c → IsMarked bytes marks w
    → IsTrue (get_or marks (length c) false) ↔ Matches (chars bytes) w
accepts_is bytes tokens c marks w i h = (
  λ x. (i.pattern.0, i.pattern.1, (for_tree (chars bytes) i.pattern.0 w marks (length c) i.pattern.1 i.pattern h.marks_are (ap length i.code_is)).0 x),
  λ x. (for_tree (chars bytes) x.0 w marks (length c) x.1 i.pattern h.marks_are (ap length i.code_is)).1 x.2,
)

-- so a word is one of the pattern, or it is none
pub decided : (bytes : List ℕ) (w : List ℕ) → HasPositionsWithin (chars bytes) position_limit → IsDecided (chars bytes) w
decided bytes w within = choose (get_or marks (length (code_of_text (chars bytes))) false) refl
  where
    marks : List Bool
    marks = marks_from (tokens_of_text (chars bytes)) (code_of_text (chars bytes)) (first_marks (code_of_text (chars bytes))) w

    tells : IsTrue (get_or marks (length (code_of_text (chars bytes))) false) ↔ Matches (chars bytes) w
    tells =
        accepts_is bytes (tokens_of_text (chars bytes)) (code_of_text (chars bytes)) marks w (record { pattern = within; tokens_are = refl; code_is = refl })
        (record { marks_are = refl })

    choose : (b : Bool) → get_or marks (length (code_of_text (chars bytes))) false ≡ b → IsDecided (chars bytes) w
    choose true e = inl (tells.0 e)
    choose false e = inr (λ m. let both = sym e ∙ tells.1 m in absurd cc)

-- marks behind a word are one for each instruction, and one more
pub marked_length : (bytes : List ℕ) (marks : List Bool) (w : List ℕ) → IsMarked bytes marks w → length marks ≡ length (code_of_text (chars bytes)) + 1
marked_length bytes marks w h = ap length h.marks_are ∙ read_length (tokens_of_text (chars bytes)) (code_of_text (chars bytes)) w

pub marked_more : (bytes : List ℕ) (old new : List Bool) (x : ℕ) (w : List ℕ) → new ≡ follows bytes x old → IsMarked bytes old w → IsMarked bytes new (w ++ x ∷ [])
marked_more bytes old new x w e h = record {
  marks_are = e ∙ ap (λ m. next_marks (tokens_of_text (chars bytes)) (code_of_text (chars bytes)) x m) h.marks_are
      ∙ sym (marks_snoc (tokens_of_text (chars bytes)) (code_of_text (chars bytes)) w x (first_marks (code_of_text (chars bytes))));
}
