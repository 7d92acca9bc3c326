use Rattle.std.proofs.lemmas.Int.Digits.{digits_more}
use Rattle.lexical_core.proofs.digits.digit_count.Goals as goal

pub loop-count-preserved : goal.loop-count-preserved
loop-count-preserved c =
    digits_more 10 c.args.bytes.now c.loop-count.count c.loop-count-test.true c.loop-count.invariant c.if-not-is_ascii_digit.ensures.bound
