use Rattle.der_codec.proofs.checker.DerChecker.take_run.Goals as goal

pub take_run-requires-clause-waits : goal.take_run-requires-clause-waits
take_run-requires-clause-waits c = c.requires.given.1.reading.waits

pub take_run-requires-clause-read : goal.take_run-requires-clause-read
take_run-requires-clause-read c = (let g = c.requires.given in (g.0, g.1.reading.read))

pub returns-clause-none : goal.returns-clause-none
returns-clause-none c = λ some. c.requires.alone
