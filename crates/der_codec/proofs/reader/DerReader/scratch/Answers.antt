use Rattle.der_codec.proofs.reader.DerReader.scratch.Goals as goal

pub returns-clause-bound : goal.returns-clause-bound
returns-clause-bound c = λ T bytes h. c.scratch.ensures.bound T bytes h.given
