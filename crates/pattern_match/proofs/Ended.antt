-- Each group of a pattern's code ends in it.
use Rattle.std.proofs.Common.{◌≡◌, ℕ, suc, ◌+◌, ◌<◌, ◌≤◌, false, List, [], ◌∷◌, chars, length, take, drop, replicate, refl, sym, ap, ◌∙◌, subst, arith, append-nil, zero-add, suc-add, drop_of_length-le}
use Rattle.std.proofs.lemmas.List.{length-replicate, replicate-append-replicate, take_at}
use Rattle.std.proofs.Math.Seq.{take-length}
use Rattle.pattern_match.specs.inner.Plan.{Plan, Nothing, One, Many, Either, size, code_then}
use Rattle.pattern_match.specs.Marks.{Walk, AreEnded, ListsPlaces, IsDone}
use Rattle.pattern_match.specs.Compiled.{IsCompiled}
use Rattle.pattern_match.specs.declared.instruction.Instruction.{Instruction}
use Rattle.pattern_match.specs.declared.instruction.Instruction.TheVariants.{Bar, Close}
use Rattle.pattern_match.specs.declared.token.Token.{Token}
use Rattle.pattern_match.proofs.PlanOf.{whole}
use Rattle.pattern_match.proofs.PlanCode.{code, code_length}
use Rattle.pattern_match.proofs.Judging.{tree_code}

pub plan_ended : (t : Plan) (k : ℕ) (more : List Instruction) → AreEnded k more → AreEnded (size t + k) (code_then t more)
plan_ended Nothing k more h = subst (λ n. AreEnded n more) (sym (zero-add k)) h
plan_ended (One at o r rest) k more h =
    subst (λ n. AreEnded n (code_then (One at o r rest) more)) (sym (suc-add (size rest) k)) (tt, plan_ended rest k more h)
plan_ended (Many inner o r rest) k more h =
    subst (λ n. AreEnded n (code_then (Many inner o r rest) more)) (let z : suc (size inner + suc (size rest + k)) ≡ suc (size inner + suc (size rest)) + k = omega arith in z)
    (let z : size inner < size inner + suc (size rest + k) = omega arith in z, plan_ended inner (suc (size rest + k)) (Close ∷ code_then rest more) (tt, plan_ended rest k more h))
plan_ended (Either branch rest) k more h =
    subst (λ n. AreEnded n (code_then (Either branch rest) more)) (let z : size branch + suc (size rest + k) ≡ size branch + suc (size rest) + k = omega arith in z)
    (plan_ended branch (suc (size rest + k)) (Bar ∷ code_then rest more) (tt, plan_ended rest k more h))

-- behind a plan
pub ended_drop : (t : Plan) (k : ℕ) (more : List Instruction) → AreEnded (size t + k) (code_then t more) → AreEnded k more
ended_drop Nothing k more h = subst (λ n. AreEnded n more) (zero-add k) h
ended_drop (One at o r rest) k more h = ended_drop rest k more (subst (λ n. AreEnded n (code_then (One at o r rest) more)) (suc-add (size rest) k) h).1
ended_drop (Many inner o r rest) k more h =
    ended_drop rest k more (ended_drop inner (suc (size rest + k)) (Close ∷ code_then rest more)
    (subst (λ n. AreEnded n (code_then (Many inner o r rest) more)) (let z : suc (size inner + suc (size rest)) + k ≡ suc (size inner + suc (size rest + k)) = omega arith in z) h).1).1
ended_drop (Either branch rest) k more h =
    ended_drop rest k more (ended_drop branch (suc (size rest + k)) (Bar ∷ code_then rest more)
    (subst (λ n. AreEnded n (code_then (Either branch rest) more)) (let z : size branch + suc (size rest) + k ≡ size branch + suc (size rest + k) = omega arith in z) h)).1

pub code_ended : (bytes : List ℕ) (tokens : List Token) (c : List Instruction) → IsCompiled bytes tokens c → AreEnded (length c) c
code_ended bytes tokens c i =
    subst (λ x. AreEnded (length x) x) (sym (i.code_is ∙ tree_code (chars bytes) i.pattern.0 i.pattern.1))
    (subst (λ n. AreEnded n (code (whole i.pattern.0))) (sym (code_length (whole i.pattern.0) [])) (plan_ended (whole i.pattern.0) 0 [] tt))

-- marks none of which is set yet
pub none_done : (c : List Instruction) (n : ℕ) (walk : Walk) → n ≡ length c → AreEnded (length c) c → walk ≡ record { cells = replicate (n + 1) false; at = n; behind = []; ahead = [] } → IsDone c walk
none_done c n walk l h e = subst (λ w. IsDone c w) (sym e) (record {
  listed = record {
    long = length-replicate (n + 1) false ∙ ap (λ k. k + 1) l;
    inside = omega arith;
    behind = subst (λ x. ListsPlaces 0 x (take n (replicate (n + 1) false)) []) (sym front) ([], marks ∙ sym (append-nil (replicate (length c) false)), h);
    ahead = subst (λ x. ListsPlaces n x (drop n (replicate (n + 1) false)) []) (sym none) (drop n (replicate (n + 1) false), refl, tt);
  };
  at = l;
})
  where
    front : take n c ≡ c
    front = ap (λ k. take k c) l ∙ take-length c

    none : drop n c ≡ []
    none = drop_of_length-le c (let z : length c ≤ n = omega arith in z)

    marks : take n (replicate (n + 1) false) ≡ replicate (length c) false
    marks = ap (λ x. take n x) (sym (replicate-append-replicate n 1 false)) ∙ take_at (replicate n false) (replicate 1 false) n (length-replicate n false) ∙ ap (λ k. replicate k false) l
