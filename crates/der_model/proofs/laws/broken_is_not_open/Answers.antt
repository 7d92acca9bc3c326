use Rattle.der_model.proofs.SoundMessages.{are_sorted}
use Rattle.der_model.proofs.PartsFront.{broken_is_not_open}
use Rattle.der_model.proofs.FiniteFilled.{finite_are_filled}
use Rattle.der_model.proofs.laws.broken_is_not_open.Goals as goal

pub returns : goal.returns
returns c m sound finite = broken_is_not_open m (are_sorted m sound) (finite_are_filled m sound finite)
