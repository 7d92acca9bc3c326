use Rattle.der_model.proofs.PartsFront.{front_is_open}
use Rattle.der_model.proofs.FiniteFilled.{finite_are_filled}
use Rattle.der_model.proofs.laws.front_is_open.Goals as goal

pub returns : goal.returns
returns c m sound finite = front_is_open m (finite_are_filled m sound finite)
