use Rattle.der_model.proofs.SomeAnswer.{spelled_or_faulty}
use Rattle.der_model.proofs.laws.spelled_or_faulty.Goals as goal

pub returns : goal.returns
returns c m sound kinds = spelled_or_faulty m sound kinds
