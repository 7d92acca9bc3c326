use Rattle.std.proofs.Common.{rules, ◌≡◌, ◌≤◌, ◌∷◌, arith}
use Rattle.markup.proofs.LiteralRuns.{two_at, three_at}
use Rattle.markup.proofs.literals.common_size.Goals.{else-first-via-then-first+else-second-lt160, else-first-via-else-first}
use Rattle.markup.proofs.literals.common_size.Goals as goal

pub returns-then-first-le223 : goal.returns-then-first-le223
returns-then-first-le223 c =
    let e : c.args.piece.now ≡ c.in-Some.first.now ∷ c.in-Some-split_first.second.now ∷ c.in-Some-split_first.after.now = search rules in
    two_at c.in-Some.first.now c.in-Some-split_first.second.now c.in-Some-split_first.after.now c.args.piece.now e (omega arith) (omega arith) (c.is_tail.ensures.0 c.if-not-is_tail.false)

pub returns-then-is_tail : goal.returns-then-is_tail
returns-then-is_tail c =
    let e : c.args.piece.now ≡ c.in-Some.first.now ∷ c.in-Some-split_first.second.now ∷ c.in-Some-split_first-2.third.now ∷ c.in-Some-split_first-2.field-0-1.now = search rules in
    let over : c.in-Some.first.now ≡ 0xE0 → 0xA0 ≤ c.in-Some-split_first.second.now = λ h. elim c.else-first.branch as (λ _. 0xA0 ≤ c.in-Some-split_first.second.now) [
      | else-first-via-then-first+else-second-lt160 w ↦ omega (arith, w.if-second-lt160.false)
      | else-first-via-else-first w ↦ absurd (omega (arith, w.if-first.false, h))
    ] in
    three_at c.in-Some.first.now c.in-Some-split_first.second.now c.in-Some-split_first-2.third.now c.in-Some-split_first-2.field-0-1.now c.args.piece.now e (omega arith) (omega arith) over
    (c.is_tail.ensures.0 c.if-not-is_tail.false) (c.is_tail-2.ensures.0 c.if-is_tail.true)
