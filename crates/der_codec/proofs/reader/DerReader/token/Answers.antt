use Rattle.der_codec.proofs.reader.DerReader.token.Goals as goal

pub returns-clause-come : goal.returns-clause-come
returns-clause-come c = λ T bytes h. c.token.ensures.come T bytes h.given

pub returns-clause-bound : goal.returns-clause-bound
returns-clause-bound c = λ T bytes h. c.token.ensures.bound T bytes h.given
