use Rattle.der_codec.proofs.reader.DerReader.depth.Goals as goal

pub returns : goal.returns
returns c = λ T bytes h. c.depth.ensures T bytes h.given
