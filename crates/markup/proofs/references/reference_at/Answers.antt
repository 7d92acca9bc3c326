use Rattle.std.proofs.Common.{rules, ◌≡◌, ◌∷◌, length, IsSome, ap, arith}
use Rattle.markup.proofs.NumberedReferences.{is_long, found_hexadecimal, found_decimal}
use Rattle.markup.proofs.references.reference_at.Goals as goal

pub returns-in_default-split_first-2-clause-all : goal.returns-in_default-split_first-2-clause-all
returns-in_default-split_first-2-clause-all c reference more is begins =
    let e : c.args.piece.now ≡ c.in-Some.first.now ∷ c.in-Some-split_first.second.now ∷ c.in-Some-split_first.numbered.now = search rules in
    let n : length c.in-Some-split_first.numbered.now ≡ 0 = search rules in
    absurd (omega (arith, is_long c.args.piece.now reference more is begins, ap length e, n))

pub returns-then-third-eq120-clause-all : goal.returns-then-third-eq120-clause-all
returns-then-third-eq120-clause-all c =
    let e : c.args.piece.now ≡ c.in-Some.first.now ∷ c.in-Some-split_first.second.now ∷ c.in-Some-split_first.numbered.now = search rules in
    let m : c.in-Some-split_first.numbered.now ≡ c.in-Some-split_first-2.third.now ∷ c.in-Some-split_first-2.digits.now = search rules in
    found_hexadecimal (IsSome c.number_at.result) c.args.piece.now c.in-Some-split_first.numbered.now c.in-Some-split_first-2.digits.now c.in-Some.first.now c.in-Some-split_first.second.now c.in-Some-split_first-2.third.now e c.if-second-ne35.false m c.if-third-eq120.true c.number_at.ensures.all

pub returns-else-third-eq120-clause-all : goal.returns-else-third-eq120-clause-all
returns-else-third-eq120-clause-all c =
    let e : c.args.piece.now ≡ c.in-Some.first.now ∷ c.in-Some-split_first.second.now ∷ c.in-Some-split_first.numbered.now = search rules in
    let m : c.in-Some-split_first.numbered.now ≡ c.in-Some-split_first-2.third.now ∷ c.in-Some-split_first-2.digits.now = search rules in
    found_decimal (IsSome c.number_at-else-third-eq120.result) c.args.piece.now c.in-Some-split_first.numbered.now c.in-Some-split_first-2.digits.now c.in-Some.first.now c.in-Some-split_first.second.now c.in-Some-split_first-2.third.now e c.if-second-ne35.false m c.if-third-eq120.false c.number_at-else-third-eq120.ensures.all
