use Rattle.der_model.proofs.laws.one_value.Goals as goal
use Rattle.der_model.proofs.Answered as answered

pub returns : goal.returns
returns c = answered.one_value
