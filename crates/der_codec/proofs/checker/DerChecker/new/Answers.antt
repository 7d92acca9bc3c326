use Rattle.der_codec.proofs.checker.DerChecker.new.Goals as goal

pub returns-clause-fed : goal.returns-clause-fed
returns-clause-fed c = c.start.ensures.fed c.args.model.now

pub returns-clause-made : goal.returns-clause-made
returns-clause-made c = c.start.ensures.made c.args.model.now
