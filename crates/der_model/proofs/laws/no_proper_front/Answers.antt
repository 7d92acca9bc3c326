use Rattle.der_model.proofs.laws.no_proper_front.Goals as goal
use Rattle.der_model.proofs.Answered as answered

pub returns : goal.returns
returns c = answered.no_proper_front
