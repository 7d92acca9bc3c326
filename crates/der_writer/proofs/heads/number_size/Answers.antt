use Rattle.std.proofs.Common.{arith}
use Rattle.der_writer.proofs.HeadLemmas.{one_size, two_size, three_size}
use Rattle.der_writer.proofs.heads.number_size.Goals as goal

pub returns-then-number-lt31-clause-size : goal.returns-then-number-lt31-clause-size
returns-then-number-lt31-clause-size c form tag is = one_size form tag (omega (arith, is, c.if-number-lt31.true))

pub returns-then-number-lt128-clause-size : goal.returns-then-number-lt128-clause-size
returns-then-number-lt128-clause-size c form tag is = two_size form tag (omega (arith, is, c.if-number-lt31.false)) (omega (arith, is, c.if-number-lt128.true))

pub returns-else-number-lt128-clause-size : goal.returns-else-number-lt128-clause-size
returns-else-number-lt128-clause-size c form tag is = three_size form tag (omega (arith, is, c.if-number-lt128.false)) (omega (arith, is, c.requires))
