use Rattle.der_model.proofs.laws.whole_is_spelled.Goals as goal
use Rattle.der_model.proofs.Answered as answered

pub returns : goal.returns
returns c = answered.whole_is_spelled
