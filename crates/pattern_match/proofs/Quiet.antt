-- Where no word may go on, a pass may go on to the end of the branch.
use Rattle.std.proofs.Common.{◌≡◌, ℕ, zero, suc, ◌+◌, ◌-◌, ◌≤◌, ◌<◌, nat_lt, if◌then◌else◌, Bool, true, false, List, [], ◌∷◌, ◌++◌, length, take, drop, min, get_or, replicate, refl, sym, ap, ap₂, ◌∙◌, subst, arith, append_assoc, suc-add, zero-add, add-zero, chars}
use Rattle.std.proofs.lemmas.Bool.{lt-ltb, ltb-true, ltb-false}
use Rattle.std.proofs.lemmas.List.{replicate-append-replicate, drop-drop, drop_at}
use Rattle.pattern_match.specs.inner.Plan.{Plan, Nothing, One, Many, Either, size, code_then}
use Rattle.pattern_match.specs.Marking.{frame, first_pass, second_pass, second_live, second_frames}
use Rattle.pattern_match.specs.Marks.{Walk, AreEnded, first_place_or, IsListed, Skips, first_rest, second_rest}
use Rattle.pattern_match.specs.Compiled.{IsCompiled}
use Rattle.pattern_match.specs.declared.token.Token.{Token}
use Rattle.pattern_match.specs.Gaps.{gap_of, gaps, IsQuiet, AreQuiet, HasGaps}
use Rattle.pattern_match.specs.declared.instruction.Instruction.{Instruction}
use Rattle.pattern_match.specs.declared.instruction.Instruction.TheVariants.{Take, Open, Bar, Close}
use Rattle.pattern_match.specs.declared.instruction.Frame.{Frame}
use Rattle.pattern_match.proofs.Walking.{unset_at, skip_take, skip_drop, skipped_first, skipped_second, ahead_first, skips_to}
use Rattle.pattern_match.proofs.Ended.{plan_ended, ended_drop}
use Rattle.pattern_match.proofs.PlanCode.{code, code_length, code_split}
use Rattle.pattern_match.proofs.PlanOf.{whole}
use Rattle.pattern_match.proofs.Judging.{tree_code}

-- a group that no word has begun or left
abbrev unbegun : Frame
unbegun = frame false false

split : (a b : ℕ) (marks : List Bool) → replicate (a + suc b) false ++ marks ≡ replicate a false ++ (false ∷ (replicate b false ++ marks))
split a b marks = ap (λ x. x ++ marks) (sym (replicate-append-replicate a (suc b) false)) ∙ append_assoc (replicate a false) (replicate (suc b) false) marks

-- the instructions of a plan in such a group
module _ (admits : ℕ → Bool) where
  plan_first : (t : Plan) (more : List Instruction) (marks : List Bool) (f : Frame) (fs : List Frame)
      → first_pass admits (code_then t more) (replicate (size t) false ++ marks) false (unbegun ∷ f ∷ fs) ≡ replicate (size t) false ++ first_pass admits more marks false (unbegun ∷ f ∷ fs)
  plan_first Nothing more marks f fs = refl
  plan_first (One at true r rest) more marks f fs = ap (λ x. false ∷ x) (plan_first rest more marks f fs)
  plan_first (One at false r rest) more marks f fs = ap (λ x. false ∷ x) (plan_first rest more marks f fs)
  plan_first (Many inner true r rest) more marks f fs =
      ap (λ x. false ∷ x) (
      ap (λ x. first_pass admits (code_then inner (Close ∷ code_then rest more)) x false (unbegun ∷ unbegun ∷ f ∷ fs)) (split (size inner) (size rest) marks)
      ∙ plan_first inner (Close ∷ code_then rest more) (false ∷ (replicate (size rest) false ++ marks)) unbegun (f ∷ fs)
      ∙ ap (λ x. replicate (size inner) false ++ (false ∷ x)) (plan_first rest more marks f fs)
      ∙ sym (split (size inner) (size rest) (first_pass admits more marks false (unbegun ∷ f ∷ fs)))
      )
  plan_first (Many inner false r rest) more marks f fs =
      ap (λ x. false ∷ x) (
      ap (λ x. first_pass admits (code_then inner (Close ∷ code_then rest more)) x false (unbegun ∷ unbegun ∷ f ∷ fs)) (split (size inner) (size rest) marks)
      ∙ plan_first inner (Close ∷ code_then rest more) (false ∷ (replicate (size rest) false ++ marks)) unbegun (f ∷ fs)
      ∙ ap (λ x. replicate (size inner) false ++ (false ∷ x)) (plan_first rest more marks f fs)
      ∙ sym (split (size inner) (size rest) (first_pass admits more marks false (unbegun ∷ f ∷ fs)))
      )
  plan_first (Either branch rest) more marks f fs =
      ap (λ x. first_pass admits (code_then branch (Bar ∷ code_then rest more)) x false (unbegun ∷ f ∷ fs)) (split (size branch) (size rest) marks)
      ∙ plan_first branch (Bar ∷ code_then rest more) (false ∷ (replicate (size rest) false ++ marks)) f fs
      ∙ ap (λ x. replicate (size branch) false ++ (false ∷ x)) (plan_first rest more marks f fs)
      ∙ sym (split (size branch) (size rest) (first_pass admits more marks false (unbegun ∷ f ∷ fs)))

plan_second : (t : Plan) (more : List Instruction) (marks : List Bool) (f : Frame) (fs : List Frame)
    → second_pass (code_then t more) (replicate (size t) false ++ marks) false (unbegun ∷ f ∷ fs) ≡ replicate (size t) false ++ second_pass more marks false (unbegun ∷ f ∷ fs)
plan_second Nothing more marks f fs = refl
plan_second (One at true true rest) more marks f fs = ap (λ x. false ∷ x) (plan_second rest more marks f fs)
plan_second (One at true false rest) more marks f fs = ap (λ x. false ∷ x) (plan_second rest more marks f fs)
plan_second (One at false true rest) more marks f fs = ap (λ x. false ∷ x) (plan_second rest more marks f fs)
plan_second (One at false false rest) more marks f fs = ap (λ x. false ∷ x) (plan_second rest more marks f fs)
plan_second (Many inner true true rest) more marks f fs =
    ap (λ x. false ∷ x) (
    ap (λ e. second_pass (code_then inner (Close ∷ code_then rest more)) (replicate (size inner + suc (size rest)) false ++ marks) (second_live (Open (size inner) true true) false e false (unbegun ∷ f ∷ fs)) (second_frames (Open (size inner) true true) e false (unbegun ∷ f ∷ fs)))
    (unset_at (size inner + suc (size rest)) (size inner) marks (omega arith))
    ∙ ap (λ x. second_pass (code_then inner (Close ∷ code_then rest more)) x false (unbegun ∷ unbegun ∷ f ∷ fs)) (split (size inner) (size rest) marks)
    ∙ plan_second inner (Close ∷ code_then rest more) (false ∷ (replicate (size rest) false ++ marks)) unbegun (f ∷ fs)
    ∙ ap (λ x. replicate (size inner) false ++ (false ∷ x)) (plan_second rest more marks f fs)
    ∙ sym (split (size inner) (size rest) (second_pass more marks false (unbegun ∷ f ∷ fs)))
    )
plan_second (Many inner true false rest) more marks f fs =
    ap (λ x. false ∷ x) (
    ap (λ x. second_pass (code_then inner (Close ∷ code_then rest more)) x false (unbegun ∷ unbegun ∷ f ∷ fs)) (split (size inner) (size rest) marks)
    ∙ plan_second inner (Close ∷ code_then rest more) (false ∷ (replicate (size rest) false ++ marks)) unbegun (f ∷ fs)
    ∙ ap (λ x. replicate (size inner) false ++ (false ∷ x)) (plan_second rest more marks f fs)
    ∙ sym (split (size inner) (size rest) (second_pass more marks false (unbegun ∷ f ∷ fs)))
    )
plan_second (Many inner false true rest) more marks f fs =
    ap (λ x. false ∷ x) (
    ap (λ e. second_pass (code_then inner (Close ∷ code_then rest more)) (replicate (size inner + suc (size rest)) false ++ marks) (second_live (Open (size inner) false true) false e false (unbegun ∷ f ∷ fs)) (second_frames (Open (size inner) false true) e false (unbegun ∷ f ∷ fs)))
    (unset_at (size inner + suc (size rest)) (size inner) marks (omega arith))
    ∙ ap (λ x. second_pass (code_then inner (Close ∷ code_then rest more)) x false (unbegun ∷ unbegun ∷ f ∷ fs)) (split (size inner) (size rest) marks)
    ∙ plan_second inner (Close ∷ code_then rest more) (false ∷ (replicate (size rest) false ++ marks)) unbegun (f ∷ fs)
    ∙ ap (λ x. replicate (size inner) false ++ (false ∷ x)) (plan_second rest more marks f fs)
    ∙ sym (split (size inner) (size rest) (second_pass more marks false (unbegun ∷ f ∷ fs)))
    )
plan_second (Many inner false false rest) more marks f fs =
    ap (λ x. false ∷ x) (
    ap (λ x. second_pass (code_then inner (Close ∷ code_then rest more)) x false (unbegun ∷ unbegun ∷ f ∷ fs)) (split (size inner) (size rest) marks)
    ∙ plan_second inner (Close ∷ code_then rest more) (false ∷ (replicate (size rest) false ++ marks)) unbegun (f ∷ fs)
    ∙ ap (λ x. replicate (size inner) false ++ (false ∷ x)) (plan_second rest more marks f fs)
    ∙ sym (split (size inner) (size rest) (second_pass more marks false (unbegun ∷ f ∷ fs)))
    )
plan_second (Either branch rest) more marks f fs =
    ap (λ x. second_pass (code_then branch (Bar ∷ code_then rest more)) x false (unbegun ∷ f ∷ fs)) (split (size branch) (size rest) marks)
    ∙ plan_second branch (Bar ∷ code_then rest more) (false ∷ (replicate (size rest) false ++ marks)) f fs
    ∙ ap (λ x. replicate (size branch) false ++ (false ∷ x)) (plan_second rest more marks f fs)
    ∙ sym (split (size branch) (size rest) (second_pass more marks false (unbegun ∷ f ∷ fs)))

-- an atom, and a group, before quiet instructions
quiet_none : (code : List Instruction) → IsQuiet 0 code
quiet_none code = record { first = λ admits marks f fs. refl; second = λ marks f fs. refl }

quiet_take : (at : ℕ) (o r : Bool) (n : ℕ) (code : List Instruction) → IsQuiet n code → IsQuiet (suc n) (Take at o r ∷ code)
quiet_take at true true n code h = record { first = λ admits marks f fs. ap (λ x. false ∷ x) (h.first admits marks f fs); second = λ marks f fs. ap (λ x. false ∷ x) (h.second marks f fs) }
quiet_take at true false n code h = record { first = λ admits marks f fs. ap (λ x. false ∷ x) (h.first admits marks f fs); second = λ marks f fs. ap (λ x. false ∷ x) (h.second marks f fs) }
quiet_take at false true n code h = record { first = λ admits marks f fs. ap (λ x. false ∷ x) (h.first admits marks f fs); second = λ marks f fs. ap (λ x. false ∷ x) (h.second marks f fs) }
quiet_take at false false n code h = record { first = λ admits marks f fs. ap (λ x. false ∷ x) (h.first admits marks f fs); second = λ marks f fs. ap (λ x. false ∷ x) (h.second marks f fs) }

behind_group : (t : Plan) (n : ℕ) (rest : List Instruction) → drop (size t + suc n) (code_then t (Close ∷ rest)) ≡ drop n rest
behind_group t n rest = sym (drop-drop (suc n) (size t) (code_then t (Close ∷ rest))) ∙ ap (λ x. drop (suc n) x) (drop_plan t (Close ∷ rest))
  where
    drop_plan : (t2 : Plan) (more : List Instruction) → drop (size t2) (code_then t2 more) ≡ more
    drop_plan t2 more = ap (λ x. drop (size t2) x) (code_split t2 more) ∙ drop_at (code t2) more (size t2) (code_length t2 [] ∙ add-zero (size t2))

quiet_group : (t : Plan) (o r : Bool) (n : ℕ) (rest : List Instruction) → IsQuiet n rest → IsQuiet (suc (size t + suc n)) (Open (size t) o r ∷ code_then t (Close ∷ rest))
quiet_group t true true n rest h = record {
  first = λ admits marks f fs. ap (λ x. false ∷ x) (
      ap (λ x. first_pass admits (code_then t (Close ∷ rest)) x false (unbegun ∷ f ∷ fs)) (split (size t) n marks)
      ∙ plan_first admits t (Close ∷ rest) (false ∷ (replicate n false ++ marks)) f fs
      ∙ ap (λ x. replicate (size t) false ++ (false ∷ x)) (h.first admits marks f fs)
      ∙ sym (split (size t) n (first_pass admits (drop n rest) marks false (f ∷ fs)))
      ∙ ap (λ x. replicate (size t + suc n) false ++ first_pass admits x marks false (f ∷ fs)) (sym (behind_group t n rest))
      );
  second = λ marks f fs. ap (λ x. false ∷ x) (
      ap (λ e. second_pass (code_then t (Close ∷ rest)) (replicate (size t + suc n) false ++ marks) (second_live (Open (size t) true true) false e false (f ∷ fs)) (second_frames (Open (size t) true true) e false (f ∷ fs)))
      (unset_at (size t + suc n) (size t) marks (omega arith))
      ∙ ap (λ x. second_pass (code_then t (Close ∷ rest)) x false (unbegun ∷ f ∷ fs)) (split (size t) n marks)
      ∙ plan_second t (Close ∷ rest) (false ∷ (replicate n false ++ marks)) f fs
      ∙ ap (λ x. replicate (size t) false ++ (false ∷ x)) (h.second marks f fs)
      ∙ sym (split (size t) n (second_pass (drop n rest) marks false (f ∷ fs)))
      ∙ ap (λ x. replicate (size t + suc n) false ++ second_pass x marks false (f ∷ fs)) (sym (behind_group t n rest))
      );
}
quiet_group t true false n rest h = record {
  first = λ admits marks f fs. ap (λ x. false ∷ x) (
      ap (λ x. first_pass admits (code_then t (Close ∷ rest)) x false (unbegun ∷ f ∷ fs)) (split (size t) n marks)
      ∙ plan_first admits t (Close ∷ rest) (false ∷ (replicate n false ++ marks)) f fs
      ∙ ap (λ x. replicate (size t) false ++ (false ∷ x)) (h.first admits marks f fs)
      ∙ sym (split (size t) n (first_pass admits (drop n rest) marks false (f ∷ fs)))
      ∙ ap (λ x. replicate (size t + suc n) false ++ first_pass admits x marks false (f ∷ fs)) (sym (behind_group t n rest))
      );
  second = λ marks f fs. ap (λ x. false ∷ x) (
      ap (λ x. second_pass (code_then t (Close ∷ rest)) x false (unbegun ∷ f ∷ fs)) (split (size t) n marks)
      ∙ plan_second t (Close ∷ rest) (false ∷ (replicate n false ++ marks)) f fs
      ∙ ap (λ x. replicate (size t) false ++ (false ∷ x)) (h.second marks f fs)
      ∙ sym (split (size t) n (second_pass (drop n rest) marks false (f ∷ fs)))
      ∙ ap (λ x. replicate (size t + suc n) false ++ second_pass x marks false (f ∷ fs)) (sym (behind_group t n rest))
      );
}
quiet_group t false true n rest h = record {
  first = λ admits marks f fs. ap (λ x. false ∷ x) (
      ap (λ x. first_pass admits (code_then t (Close ∷ rest)) x false (unbegun ∷ f ∷ fs)) (split (size t) n marks)
      ∙ plan_first admits t (Close ∷ rest) (false ∷ (replicate n false ++ marks)) f fs
      ∙ ap (λ x. replicate (size t) false ++ (false ∷ x)) (h.first admits marks f fs)
      ∙ sym (split (size t) n (first_pass admits (drop n rest) marks false (f ∷ fs)))
      ∙ ap (λ x. replicate (size t + suc n) false ++ first_pass admits x marks false (f ∷ fs)) (sym (behind_group t n rest))
      );
  second = λ marks f fs. ap (λ x. false ∷ x) (
      ap (λ e. second_pass (code_then t (Close ∷ rest)) (replicate (size t + suc n) false ++ marks) (second_live (Open (size t) false true) false e false (f ∷ fs)) (second_frames (Open (size t) false true) e false (f ∷ fs)))
      (unset_at (size t + suc n) (size t) marks (omega arith))
      ∙ ap (λ x. second_pass (code_then t (Close ∷ rest)) x false (unbegun ∷ f ∷ fs)) (split (size t) n marks)
      ∙ plan_second t (Close ∷ rest) (false ∷ (replicate n false ++ marks)) f fs
      ∙ ap (λ x. replicate (size t) false ++ (false ∷ x)) (h.second marks f fs)
      ∙ sym (split (size t) n (second_pass (drop n rest) marks false (f ∷ fs)))
      ∙ ap (λ x. replicate (size t + suc n) false ++ second_pass x marks false (f ∷ fs)) (sym (behind_group t n rest))
      );
}
quiet_group t false false n rest h = record {
  first = λ admits marks f fs. ap (λ x. false ∷ x) (
      ap (λ x. first_pass admits (code_then t (Close ∷ rest)) x false (unbegun ∷ f ∷ fs)) (split (size t) n marks)
      ∙ plan_first admits t (Close ∷ rest) (false ∷ (replicate n false ++ marks)) f fs
      ∙ ap (λ x. replicate (size t) false ++ (false ∷ x)) (h.first admits marks f fs)
      ∙ sym (split (size t) n (first_pass admits (drop n rest) marks false (f ∷ fs)))
      ∙ ap (λ x. replicate (size t + suc n) false ++ first_pass admits x marks false (f ∷ fs)) (sym (behind_group t n rest))
      );
  second = λ marks f fs. ap (λ x. false ∷ x) (
      ap (λ x. second_pass (code_then t (Close ∷ rest)) x false (unbegun ∷ f ∷ fs)) (split (size t) n marks)
      ∙ plan_second t (Close ∷ rest) (false ∷ (replicate n false ++ marks)) f fs
      ∙ ap (λ x. replicate (size t) false ++ (false ∷ x)) (h.second marks f fs)
      ∙ sym (split (size t) n (second_pass (drop n rest) marks false (f ∷ fs)))
      ∙ ap (λ x. replicate (size t + suc n) false ++ second_pass x marks false (f ∷ fs)) (sym (behind_group t n rest))
      );
}

are_none : (code : List Instruction) → AreQuiet 0 code
are_none code = record { inside = omega arith; ended = tt; quiet = λ m l e. subst (λ k. IsQuiet k code) (let z : 0 ≡ m = omega arith in z) (quiet_none code) }

are_take : (at : ℕ) (o r : Bool) (n : ℕ) (code : List Instruction) → AreQuiet n code → AreQuiet (suc n) (Take at o r ∷ code)
are_take at o r n code h = record {
  inside = (let z = h.inside in omega arith);
  ended = (tt, h.ended);
  quiet = some;
}
  where
    some : (m : ℕ) → m ≤ suc n → AreEnded m (Take at o r ∷ code) → IsQuiet m (Take at o r ∷ code)
    some zero l e = quiet_none (Take at o r ∷ code)
    some (suc m) l e = quiet_take at o r m code (h.quiet m (omega arith) e.1)

are_group : (t : Plan) (o r : Bool) (n : ℕ) (rest : List Instruction) → AreQuiet n rest → AreQuiet (suc (size t + suc n)) (Open (size t) o r ∷ code_then t (Close ∷ rest))
are_group t o r n rest h = record {
  inside = (let z = h.inside in let l = code_length t (Close ∷ rest) in omega arith);
  ended = (let z : size t < size t + suc n = omega arith in z, plan_ended t (suc n) (Close ∷ rest) (tt, h.ended));
  quiet = some;
}
  where
    some : (m : ℕ) → m ≤ suc (size t + suc n) → AreEnded m (Open (size t) o r ∷ code_then t (Close ∷ rest)) → IsQuiet m (Open (size t) o r ∷ code_then t (Close ∷ rest))
    some zero l e = quiet_none (Open (size t) o r ∷ code_then t (Close ∷ rest))
    some (suc m) l e =
        let k = m - suc (size t) in
        let s : m ≡ size t + suc k = (let z = e.0 in omega arith) in
        let g : AreEnded k rest = (ended_drop t (suc k) (Close ∷ rest) (subst (λ j. AreEnded j (code_then t (Close ∷ rest))) s e.1)).1 in
        subst (λ j. IsQuiet (suc j) (Open (size t) o r ∷ code_then t (Close ∷ rest))) (sym s) (quiet_group t o r k rest (h.quiet k (omega arith) g))

-- from each instruction of a plan
gaps_length : (c : List Instruction) → length (gaps c) ≡ length c
gaps_length [] = refl
gaps_length (i ∷ c) = ap suc (gaps_length c)

-- they end in the code
pub gaps_bound : (c : List Instruction) (k : ℕ) → k ≤ length (gaps c) → get_or (gaps c) k 0 + k ≤ length (gaps c)
gaps_bound [] k l = omega arith
gaps_bound (i ∷ c) (suc k) l = let z = gaps_bound c k (omega arith) in omega arith
gaps_bound (Take at o r ∷ c) zero l = let z = gaps_bound c 0 (omega arith) in omega arith
gaps_bound (Open n o r ∷ c) zero l = choose (nat_lt n (length (gaps c))) refl (λ t. gaps_bound c (suc n) t)
  where
    choose : (b : Bool) → nat_lt n (length (gaps c)) ≡ b → (suc n ≤ length (gaps c) → get_or (gaps c) (suc n) 0 + suc n ≤ length (gaps c))
        → (if b then suc (n + suc (get_or (gaps c) (suc n) 0)) else 0) + 0 ≤ suc (length (gaps c))
    choose true e h = let t = ltb-true n (length (gaps c)) e in let z = h t in omega arith
    choose false e h = omega arith
gaps_bound (Bar ∷ c) zero l = omega arith
gaps_bound (Close ∷ c) zero l = omega arith

gaps_behind : (t : Plan) (more : List Instruction) (k : ℕ) → get_or (gaps (code_then t more)) (size t + k) 0 ≡ get_or (gaps more) k 0
gaps_behind Nothing more k = ap (λ n. get_or (gaps more) n 0) (zero-add k)
gaps_behind (One at o r rest) more k = ap (λ n. get_or (gaps (code_then (One at o r rest) more)) n 0) (suc-add (size rest) k) ∙ gaps_behind rest more k
gaps_behind (Many inner o r rest) more k =
    ap (λ n. get_or (gaps (code_then (Many inner o r rest) more)) n 0) (let z : suc (size inner + suc (size rest)) + k ≡ suc (size inner + suc (size rest + k)) = omega arith in z)
    ∙ gaps_behind inner (Close ∷ code_then rest more) (suc (size rest + k)) ∙ gaps_behind rest more k
gaps_behind (Either branch rest) more k =
    ap (λ n. get_or (gaps (code_then (Either branch rest) more)) n 0) (let z : size branch + suc (size rest) + k ≡ size branch + suc (size rest + k) = omega arith in z)
    ∙ gaps_behind branch (Bar ∷ code_then rest more) (suc (size rest + k)) ∙ gaps_behind rest more k

-- one instruction more
more_gaps : (i : Instruction) (c : List Instruction) → AreQuiet (gap_of i (gaps c)) (i ∷ c) → HasGaps c → HasGaps (i ∷ c)
more_gaps i c q h zero l = q
more_gaps i c q h (suc k) l = h k (omega arith)

-- from the first on
first_gap : (c : List Instruction) → HasGaps c → AreQuiet (get_or (gaps c) 0 0) c
first_gap [] h = are_none []
first_gap (i ∷ c) h = h 0 (omega arith)

many_gaps : (inner : Plan) (o r : Bool) (rest : List Instruction) → HasGaps rest → HasGaps (code_then inner (Close ∷ rest)) → HasGaps (Open (size inner) o r ∷ code_then inner (Close ∷ rest))
many_gaps inner o r rest h g =
    more_gaps (Open (size inner) o r) within (subst (λ k. AreQuiet k (Open (size inner) o r ∷ within)) (sym gap) (are_group inner o r n rest (first_gap rest h))) g
  where
    within : List Instruction
    within = code_then inner (Close ∷ rest)

    n : ℕ
    n = get_or (gaps rest) 0 0

    room : size inner < length (gaps within)
    room = let z = gaps_length within in let l = code_length inner (Close ∷ rest) in omega arith

    behind : get_or (gaps within) (suc (size inner)) 0 ≡ n
    behind = ap (λ k. get_or (gaps within) k 0) (let z : suc (size inner) ≡ size inner + 1 = omega arith in z) ∙ gaps_behind inner (Close ∷ rest) 1

    gap : gap_of (Open (size inner) o r) (gaps within) ≡ suc (size inner + suc n)
    gap = ap (λ b. if b then suc (size inner + suc (get_or (gaps within) (suc (size inner)) 0)) else 0) (lt-ltb (size inner) (length (gaps within)) room)
        ∙ ap (λ k. suc (size inner + suc k)) behind

plan_gaps : (t : Plan) (more : List Instruction) → HasGaps more → HasGaps (code_then t more)
plan_gaps Nothing more h = h
plan_gaps (One at o r rest) more h =
    let g = plan_gaps rest more h in
    more_gaps (Take at o r) (code_then rest more) (are_take at o r (get_or (gaps (code_then rest more)) 0 0) (code_then rest more) (first_gap (code_then rest more) g)) g
plan_gaps (Many inner o r rest) more h =
    let g = plan_gaps rest more h in
    many_gaps inner o r (code_then rest more) g (plan_gaps inner (Close ∷ code_then rest more) (more_gaps Close (code_then rest more) (are_none (Close ∷ code_then rest more)) g))
plan_gaps (Either branch rest) more h =
    plan_gaps branch (Bar ∷ code_then rest more) (more_gaps Bar (code_then rest more) (are_none (Bar ∷ code_then rest more)) (plan_gaps rest more h))

no_gaps : HasGaps []
no_gaps i l = absurd (omega arith)

pub code_gaps : (bytes : List ℕ) (tokens : List Token) (c : List Instruction) → IsCompiled bytes tokens c → HasGaps c
code_gaps bytes tokens c i =
    subst HasGaps (sym (i.code_is ∙ tree_code (chars bytes) i.pattern.0 i.pattern.1)) (plan_gaps (whole i.pattern.0) [] no_gaps)

-- a walk that goes on where no word may
module _ (code : List Instruction) (old new : Walk) (s : Skips code old new) (q : IsQuiet (new.at - old.at) (drop old.at code)) where
  pub branch_first : (admits : ℕ → Bool) (frames : List Frame) → first_rest admits code new false frames ≡ first_rest admits code old false frames
  branch_first admits [] = skipped_first admits code old new s
  branch_first admits (f ∷ fs) =
      ap₂ (λ x y. x ++ first_pass admits (drop new.at code) y false (f ∷ fs)) (skip_take code old new s) (ap (λ x. drop new.at x) s.cells)
      ∙ append_assoc (take old.at old.cells) (replicate (new.at - old.at) false) (first_pass admits (drop new.at code) (drop new.at old.cells) false (f ∷ fs))
      ∙ ap (λ x. take old.at old.cells ++ x) (
      ap (λ x. replicate (new.at - old.at) false ++ first_pass admits x (drop new.at old.cells) false (f ∷ fs)) (sym (skip_drop code old new s))
      ∙ sym (q.first admits (drop new.at old.cells) f fs)
      ∙ ap (λ x. first_pass admits (drop old.at code) x false (f ∷ fs)) (sym s.unset)
      )

  pub branch_second : (frames : List Frame) → second_rest code new false frames ≡ second_rest code old false frames
  branch_second [] = skipped_second code old new s
  branch_second (f ∷ fs) =
      ap₂ (λ x y. x ++ second_pass (drop new.at code) y false (f ∷ fs)) (skip_take code old new s) (ap (λ x. drop new.at x) s.cells)
      ∙ append_assoc (take old.at old.cells) (replicate (new.at - old.at) false) (second_pass (drop new.at code) (drop new.at old.cells) false (f ∷ fs))
      ∙ ap (λ x. take old.at old.cells ++ x) (
      ap (λ x. replicate (new.at - old.at) false ++ second_pass x (drop new.at old.cells) false (f ∷ fs)) (sym (skip_drop code old new s))
      ∙ sym (q.second (drop new.at old.cells) f fs)
      ∙ ap (λ x. second_pass (drop old.at code) x false (f ∷ fs)) (sym s.unset)
      )

-- a walk goes on to the next place that is listed, or to the end of the branch
pub branch_to : (code : List Instruction) (old new : Walk) (gap : ℕ) → IsListed code old → HasGaps code → old.at < length code → gap ≡ get_or (gaps code) old.at 0
    → new ≡ record old { at = min (first_place_or old.ahead (length code)) (old.at + gap) } → Skips code old new × IsQuiet (new.at - old.at) (drop old.at code)
branch_to code old new gap h g l e n =
    (skips_to code old new to h low high near ended n, subst (λ w. IsQuiet (w.at - old.at) (drop old.at code)) (sym n) (q.quiet (to - old.at) few ended))
  where
    first : ℕ
    first = first_place_or old.ahead (length code)

    to : ℕ
    to = min first (old.at + gap)

    f : (old.at ≤ first) × (first ≤ length code) × AreEnded (first - old.at) (drop old.at code)
    f = ahead_first code old h

    q : AreQuiet gap (drop old.at code)
    q = subst (λ k. AreQuiet k (drop old.at code)) (sym e) (g old.at l)

    low : old.at ≤ min first (old.at + gap)
    low = omega (arith, f.0)

    high : min first (old.at + gap) ≤ length code
    high = omega (arith, f.1)

    near : min first (old.at + gap) ≤ first
    near = omega arith

    few : min first (old.at + gap) - old.at ≤ gap
    few = omega arith

    choose : (b : Bool) → nat_lt (old.at + gap) first ≡ b → AreEnded (min first (old.at + gap) - old.at) (drop old.at code)
    choose true z =
        let t = ltb-true (old.at + gap) first z in
        let m : gap ≡ min first (old.at + gap) - old.at = omega arith in subst (λ k. AreEnded k (drop old.at code)) m q.ended
    choose false z =
        let t = ltb-false (old.at + gap) first z in
        let m : first - old.at ≡ min first (old.at + gap) - old.at = omega arith in subst (λ k. AreEnded k (drop old.at code)) m f.2

    ended : AreEnded (to - old.at) (drop old.at code)
    ended = choose (nat_lt (old.at + gap) first) refl
