use Rattle.der_codec.proofs.checks.Checks.keep.Goals as goal

pub returns-then-not-grow-clause-others : goal.returns-then-not-grow-clause-others
returns-then-not-grow-clause-others c = λ bytes n other h. c.grow.ensures.all bytes n h

pub returns-then-number-len-2-clause-others : goal.returns-then-number-len-2-clause-others
returns-then-number-len-2-clause-others c = λ bytes n other h. c.put-then-number-len-2.ensures.others bytes n other (c.grow.ensures.all bytes n h)

pub returns-else-number-len-2-clause-others : goal.returns-else-number-len-2-clause-others
returns-else-number-len-2-clause-others c = λ bytes n other h. c.grow.ensures.all bytes n h
