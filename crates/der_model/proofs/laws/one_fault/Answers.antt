use Rattle.der_model.proofs.laws.one_fault.Goals as goal
use Rattle.der_model.proofs.Answered as answered

pub returns : goal.returns
returns c = answered.one_fault
