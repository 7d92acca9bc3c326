use Rattle.std.proofs.Common.{◌<◌, length, Some, ap, sym, arith, inl, inr}
use Rattle.std.proofs.lemmas.Bool.Decides.{nat_tests}
use Rattle.data_types.proofs.DateLemmas.{fraction_count, fraction_told}
use Rattle.data_types.proofs.dates.fraction_end.Goals as goal

pub returns-then-count-le9-clause-only : goal.returns-then-count-le9-clause-only
returns-then-count-le9-clause-only c = λ fraction zone f z e.
    let some : 0 < length c.args.text.now = grind (arith, nat_tests) in
    let count = fraction_count c.args.text.now c.split_at.result.1.now fraction zone c.args.seconds c.digit_count-count.result c.if-not-seconds.false f z e some
    c.if-text-ne46.false c.split_at.ensures.back c.digit_count-count.ensures.bound c.digit_count-count.ensures.digits c.digit_count-count.ensures.rest in
    ap Some (sym count.2)

pub returns-else-count-ge1-clause-only : goal.returns-else-count-ge1-clause-only
returns-else-count-ge1-clause-only c = λ fraction zone f z e.
    let some : 0 < length c.args.text.now = grind (arith, nat_tests) in
    let count = fraction_count c.args.text.now c.split_at.result.1.now fraction zone c.args.seconds c.digit_count-count.result c.if-not-seconds.false f z e some
    c.if-text-ne46.false c.split_at.ensures.back c.digit_count-count.ensures.bound c.digit_count-count.ensures.digits c.digit_count-count.ensures.rest in
    let low = count.0 in let high = count.1 in
    absurd (elim c.else-count-ge1.either [ inl h ↦ omega arith | inr h ↦ omega arith ])

pub returns-then-count-le9-clause-some : goal.returns-then-count-le9-clause-some
returns-then-count-le9-clause-some c =
    let some : 0 < length c.args.text.now = grind (arith, nat_tests) in
    fraction_told c.args.text.now c.split_at.result.1.now c.args.seconds c.digit_count-count.result c.if-not-seconds.false some c.if-text-ne46.false c.split_at.ensures.back
    c.digit_count-count.ensures.bound c.digit_count-count.ensures.digits c.if-count-ge1.true c.if-count-le9.true
