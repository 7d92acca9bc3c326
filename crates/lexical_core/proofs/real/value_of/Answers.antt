use Rattle.std.proofs.Common.{get_or, arith}
use Rattle.lexical_core.proofs.Numerals.{AllDigits-at, digit_range, value_more, value_too_great}
use Rattle.lexical_core.proofs.real.value_of.Goals as goal

pub overflow_sub-digit : goal.overflow_sub-digit
overflow_sub-digit c = (digit_range _ (AllDigits-at c.args.digits.now c.loop-digit.digit-index c.requires c.loop-digit-test.true)).0

pub with_digit-requires-clause-digit : goal.with_digit-requires-clause-digit
with_digit-requires-clause-digit c =
    let range = digit_range (get_or c.args.digits.now c.loop-digit.digit-index 0) (AllDigits-at c.args.digits.now c.loop-digit.digit-index c.requires c.loop-digit-test.true) in omega arith

pub returns-in-None-clause-none : goal.returns-in-None-clause-none
returns-in-None-clause-none c =
    value_too_great c.args.digits.now c.loop-digit.digit-index c.loop-digit.value c.requires c.loop-digit-test.true c.loop-digit.invariant.0 c.in-None.ensures.none

pub loop-digit-preserved : goal.loop-digit-preserved
loop-digit-preserved c = (
  value_more c.args.digits.now c.loop-digit.digit-index c.loop-digit.value _ c.requires c.loop-digit-test.true c.loop-digit.invariant.0 c.in-Some.ensures.some.0,
  c.in-Some.ensures.some.1,
)
