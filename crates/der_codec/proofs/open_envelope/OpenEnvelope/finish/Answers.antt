use Rattle.der_codec.proofs.open_envelope.OpenEnvelope.finish.Goals as goal

pub returns : goal.returns
returns c = λ octets taken. c.finish-whole.ensures octets taken
