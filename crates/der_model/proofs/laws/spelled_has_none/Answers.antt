use Rattle.der_model.proofs.laws.spelled_has_none.Goals as goal
use Rattle.der_model.proofs.Answered as answered

pub returns : goal.returns
returns c = answered.spelled_has_none
