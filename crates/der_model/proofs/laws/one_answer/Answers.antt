use Rattle.der_model.proofs.laws.one_answer.Goals as goal
use Rattle.der_model.proofs.Answered as answered

pub returns : goal.returns
returns c = answered.one_answer
