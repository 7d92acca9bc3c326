use Rattle.der_codec.proofs.reader.DerReader.new.Goals as goal

pub returns-in-Ok-clause-fed : goal.returns-in-Ok-clause-fed
returns-in-Ok-clause-fed c = record { given = c.in-Ok.ensures.fed }

pub returns-in-Ok-clause-made : goal.returns-in-Ok-clause-made
returns-in-Ok-clause-made c = (c.in-Ok.ensures.made, λ none. c.in-Ok.ensures.keeping)
