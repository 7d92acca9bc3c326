use Rattle.std.proofs.Common.{arith}
use Rattle.der_writer.proofs.HeadLemmas.{few_digits, digit_more}
use Rattle.der_writer.proofs.heads.digit_count.Goals as goal

pub overflow_add-count : goal.overflow_add-count
overflow_add-count c = (let few = few_digits c.args.number c.ranges.number.fits in omega (arith, few, c.loop-left.invariant))

pub loop-left-preserved : goal.loop-left-preserved
loop-left-preserved c = (let more = digit_more c.loop-left.left (omega (arith, c.loop-left-test.true)) in omega (arith, more, c.loop-left.invariant))

pub returns-clause-most : goal.returns-clause-most
returns-clause-most c = (let few = few_digits c.args.number c.ranges.number.fits in omega (arith, few, c.loop-left.invariant))
