use Rattle.std.proofs.Common.{refl}
use Rattle.der_codec.proofs.checker.DerChecker.with_pieces.Goals as goal

pub returns-clause-fed : goal.returns-clause-fed
returns-clause-fed c = c.start.ensures.fed c.args.model.now

pub returns-clause-made : goal.returns-clause-made
returns-clause-made c = c.start.ensures.made c.args.model.now

pub returns-clause-keeping : goal.returns-clause-keeping
returns-clause-keeping c = c.start.ensures.keeping c.args.model.now _ refl
