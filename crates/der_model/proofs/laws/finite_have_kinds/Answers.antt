use Rattle.der_model.proofs.SomeKinds.{finite_have_kinds}
use Rattle.der_model.proofs.laws.finite_have_kinds.Goals as goal

pub returns : goal.returns
returns c m finite = finite_have_kinds m.forms m.root finite
