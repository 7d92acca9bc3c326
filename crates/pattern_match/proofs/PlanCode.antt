-- The instructions of a plan, and those of its items.
use Rattle.std.proofs.Common.{◌≡◌, ℕ, zero, suc, ◌+◌, ◌-◌, ◌*◌, ◌≤◌, Bool, true, false, cond, ◌||◌, ◌==◌, nat_lt, Option, Some, None, List, [], ◌∷◌, ◌++◌, length, refl, sym, ap, ap₂, ◌∙◌, arith, append_assoc, append-nil, eqb-true, eq-eqb}
use Rattle.std.proofs.lemmas.Bool.{eqb-false, ne_eqb}
use Rattle.lexical_core.proofs.Tests.{or_false}
use Rattle.pattern_match.specs.inner.Plan.{Plan, Nothing, One, Many, Either, size, code_then}
use Rattle.pattern_match.specs.Building.{flagged_first, copies_code, repeated_code, is_item}
use Rattle.pattern_match.specs.declared.instruction.Instruction.{Instruction}
use Rattle.pattern_match.specs.declared.instruction.Instruction.TheVariants.{Take, Open, Bar, Close}
use Rattle.pattern_match.proofs.Planning.{copies_of, iterate, repeated, piece}
use Rattle.pattern_match.proofs.Grouping.{is_nothing, single, merged, group, single_merged}

-- the instructions of a plan
abbrev pub code : Plan → List Instruction
code p = code_then p []

pub code_append : (p : Plan) (xs ys : List Instruction) → code_then p xs ++ ys ≡ code_then p (xs ++ ys)
code_append Nothing xs ys = refl
code_append (One at o r rest) xs ys = ap (λ c. Take at o r ∷ c) (code_append rest xs ys)
code_append (Many inner o r rest) xs ys =
    ap (λ c. Open (size inner) o r ∷ c) (code_append inner (Close ∷ code_then rest xs) ys ∙ ap (λ c. code_then inner (Close ∷ c)) (code_append rest xs ys))
code_append (Either branch rest) xs ys = code_append branch (Bar ∷ code_then rest xs) ys ∙ ap (λ c. code_then branch (Bar ∷ c)) (code_append rest xs ys)

pub code_split : (p : Plan) (xs : List Instruction) → code_then p xs ≡ code p ++ xs
code_split p xs = sym (code_append p [] xs)

pub code_length : (p : Plan) (xs : List Instruction) → length (code_then p xs) ≡ size p + length xs
code_length Nothing xs = omega arith
code_length (One at o r rest) xs = let h = code_length rest xs in omega arith
code_length (Many inner o r rest) xs = let h = code_length inner (Close ∷ code_then rest xs) in let g = code_length rest xs in omega arith
code_length (Either branch rest) xs = let h = code_length branch (Bar ∷ code_then rest xs) in let g = code_length rest xs in omega arith

-- an item has a fragment, to whose first instruction its flags go
pub record ItemCode (item : Bool → Bool → Plan → Plan) (f : List Instruction) : Type 0 where
  pub one : code (item false false Nothing) ≡ f
  pub plain : flagged_first false false f ≡ f
  pub flags : (o r : Bool) (rest : Plan) → code (item o r rest) ≡ flagged_first o r f ++ code rest

pub one_item : (k : ℕ) → ItemCode (One k) (Take k false false ∷ [])
one_item k = record { one = refl; plain = refl; flags = λ o r rest. ap₂ (λ x y. Take k x y ∷ code rest) (sym (or_false o)) (sym (or_false r)) }

pub nothing_code : (p : Plan) → is_nothing p ≡ true → code p ≡ []
nothing_code Nothing h = refl
nothing_code (One at o r rest) h = absurd (cc)
nothing_code (Many inner o r rest) h = absurd (cc)
nothing_code (Either branch rest) h = absurd (cc)

pub some_size : (p : Plan) → is_nothing p ≡ false → 1 ≤ size p
some_size Nothing h = absurd (cc)
some_size (One at o r rest) h = omega arith
some_size (Many inner o r rest) h = omega arith
some_size (Either branch rest) h = omega arith

nothing_size : (p : Plan) → (size p == 0) ≡ is_nothing p
nothing_size Nothing = refl
nothing_size (One at o r rest) = ne_eqb (suc (size rest)) 0 (λ e. absurd (omega arith))
nothing_size (Many inner o r rest) = ne_eqb (suc (size inner + suc (size rest))) 0 (λ e. absurd (omega arith))
nothing_size (Either branch rest) = ne_eqb (size branch + suc (size rest)) 0 (λ e. absurd (omega arith))

-- what stands before a bar is not the code of one item
no_item_bar : (p : Plan) (xs : List Instruction) → is_item (code_then p (Bar ∷ xs)) ≡ false
no_item_bar Nothing xs = refl
no_item_bar (One at o r rest) xs = ne_eqb (length (code_then rest (Bar ∷ xs))) 0 (λ e. absurd (let l = code_length rest (Bar ∷ xs) in omega arith))
no_item_bar (Many inner o r rest) xs =
    ne_eqb (length (code_then inner (Close ∷ code_then rest (Bar ∷ xs)))) (suc (size inner))
    (λ e. absurd (let l = code_length inner (Close ∷ code_then rest (Bar ∷ xs)) in let k = code_length rest (Bar ∷ xs) in omega arith))
no_item_bar (Either branch rest) xs = no_item_bar branch (code_then rest (Bar ∷ xs))

same_test : (a b c d : ℕ) → (a ≡ b → c ≡ d) → (c ≡ d → a ≡ b) → (a == b) ≡ (c == d)
same_test a b c d f g = choose (c == d) refl
  where
    choose : (x : Bool) → (c == d) ≡ x → (a == b) ≡ x
    choose true e = eq-eqb a b (g (eqb-true c d e))
    choose false e = ne_eqb a b (λ h. eqb-false c d e (f h))

pub item_single : (p : Plan) → is_item (code p) ≡ single p
item_single Nothing = refl
item_single (One at o r rest) =
    same_test (length (code_then rest [])) 0 (size rest) 0 (λ e. let l = code_length rest [] in omega arith) (λ e. let l = code_length rest [] in omega arith)
    ∙ nothing_size rest
item_single (Many inner o r rest) =
    same_test (length (code_then inner (Close ∷ code_then rest []))) (suc (size inner)) (size rest) 0
    (λ e. let l = code_length inner (Close ∷ code_then rest []) in let k = code_length rest [] in omega arith)
    (λ e. let l = code_length inner (Close ∷ code_then rest []) in let k = code_length rest [] in omega arith)
    ∙ nothing_size rest
item_single (Either branch rest) = no_item_bar branch (code_then rest [])

-- the code of one item has its flags on the first instruction
merged_code : (o r : Bool) (p rest : Plan) → single p ≡ true → code (merged o r p rest) ≡ flagged_first o r (code p) ++ code rest
merged_code o r Nothing rest h = absurd (cc)
merged_code o r (One at e s Nothing) rest h = refl
merged_code o r (One at e s (One a b c d)) rest h = absurd (cc)
merged_code o r (One at e s (Many a b c d)) rest h = absurd (cc)
merged_code o r (One at e s (Either a b)) rest h = absurd (cc)
merged_code o r (Many inner e s Nothing) rest h =
    ap (λ c. Open (size inner) (o || e) (r || s) ∷ c)
    (code_split inner (Close ∷ code rest) ∙ sym (append_assoc (code inner) (Close ∷ []) (code rest)) ∙ ap (λ c. c ++ code rest) (sym (code_split inner (Close ∷ []))))
merged_code o r (Many inner e s (One a b c d)) rest h = absurd (cc)
merged_code o r (Many inner e s (Many a b c d)) rest h = absurd (cc)
merged_code o r (Many inner e s (Either a b)) rest h = absurd (cc)
merged_code o r (Either branch x) rest h = absurd (cc)

-- the fragment of a group
abbrev pub group_code : Plan → Bool → List Instruction
group_code inner empty = cond (single inner) (flagged_first empty false (code inner)) (Open (size inner) empty false ∷ (code inner ++ Close ∷ []))

flagged_plain : (xs : List Instruction) → flagged_first false false xs ≡ xs
flagged_plain [] = refl
flagged_plain (Take at o r ∷ xs) = refl
flagged_plain (Open n o r ∷ xs) = refl
flagged_plain (Bar ∷ xs) = refl
flagged_plain (Close ∷ xs) = refl

group_flags : (p : Plan) (empty : Bool) (o r : Bool) (rest : Plan) → code (group p empty o r rest) ≡ flagged_first o r (group_code p empty) ++ code rest
group_flags p empty o r rest = choose (single p) refl
  where
    choose : (b : Bool) → single p ≡ b
        → code (cond b (merged o r (merged empty false p Nothing) rest) (Many p (o || empty) (r || false) rest))
        ≡ flagged_first o r (cond b (flagged_first empty false (code p)) (Open (size p) empty false ∷ (code p ++ Close ∷ []))) ++ code rest
    choose true h =
        merged_code o r (merged empty false p Nothing) rest (single_merged empty false p h)
        ∙ ap (λ c. flagged_first o r c ++ code rest) (merged_code empty false p Nothing h ∙ append-nil (flagged_first empty false (code p)))
    choose false h = ap (λ c. Open (size p) (o || empty) (r || false) ∷ c) (code_split p (Close ∷ code rest) ∙ sym (append_assoc (code p) (Close ∷ []) (code rest)))

pub group_item : (p : Plan) (empty : Bool) → ItemCode (group p empty) (group_code p empty)
group_item p empty = record {
  one = group_flags p empty false false Nothing ∙ append-nil (flagged_first false false (group_code p empty)) ∙ flagged_plain (group_code p empty);
  plain = flagged_plain (group_code p empty);
  flags = group_flags p empty;
}

module _ (item : Bool → Bool → Plan → Plan) (f : List Instruction) (h : ItemCode item f) where
  iterate_code : (o r : Bool) (n : ℕ) (rest : Plan) → code (iterate n (item o r) rest) ≡ copies_code n (flagged_first o r f) ++ code rest
  iterate_code o r zero rest = refl
  iterate_code o r (suc n) rest =
      h.flags o r (iterate n (item o r) rest) ∙ ap (λ c. flagged_first o r f ++ c) (iterate_code o r n rest)
      ∙ sym (append_assoc (flagged_first o r f) (copies_code n (flagged_first o r f)) (code rest))

  pub repeated_plan_code : (least : ℕ) (most : Option ℕ) (rest : Plan) → code (repeated item least most rest) ≡ repeated_code least most f ++ code rest
  repeated_plan_code least (Some most) rest =
      iterate_code false false least (iterate (most - least) (item true false) rest)
      ∙ ap (λ c. copies_code least (flagged_first false false f) ++ c) (iterate_code true false (most - least) rest)
      ∙ sym (append_assoc (copies_code least (flagged_first false false f)) (copies_code (most - least) (flagged_first true false f)) (code rest))
  repeated_plan_code zero None rest = h.flags true true rest
  repeated_plan_code (suc n) None rest =
      iterate_code false false n (item false true rest)
      ∙ ap (λ c. copies_code n (flagged_first false false f) ++ c) (h.flags false true rest)
      ∙ sym (append_assoc (copies_code n (flagged_first false false f)) (flagged_first false true f) (code rest))
      ∙ ap (λ c. c ++ code rest) (sym (positive (suc n == 0) (ne_eqb (suc n) 0 (λ e. absurd (omega arith)))))
    where
      positive : (b : Bool) → b ≡ false
          → cond b (flagged_first true true f) (copies_code (suc n - 1) (flagged_first false false f) ++ flagged_first false true f)
          ≡ copies_code n (flagged_first false false f) ++ flagged_first false true f
      positive true e = absurd (cc)
      positive false e = ap (λ k. copies_code k (flagged_first false false f) ++ flagged_first false true f) (let z : suc n - 1 ≡ n = omega arith in z)

  -- a piece, and then the rest
  pub piece_split : (n least : ℕ) (most : Option ℕ) (rest : Plan) → code (piece item n least most rest) ≡ code (piece item n least most Nothing) ++ code rest
  piece_split n least most rest = choose (n * copies_of least most == 0) (nat_lt 65536 (n * copies_of least most))
    where
      choose : (a b : Bool) → code (cond a rest (cond b (item false false rest) (repeated item least most rest)))
          ≡ code (cond a Nothing (cond b (item false false Nothing) (repeated item least most Nothing))) ++ code rest
      choose true b = refl
      choose false true = h.flags false false rest ∙ ap (λ c. c ++ code rest) (h.plain ∙ sym h.one)
      choose false false = repeated_plan_code least most rest ∙ ap (λ c. c ++ code rest) (sym (repeated_plan_code least most Nothing ∙ append-nil (repeated_code least most f)))
