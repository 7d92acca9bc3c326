use Rattle.der_codec.proofs.Fed.{only_cut}
use Rattle.der_codec.proofs.laws.only_cut.Goals as goal

pub returns : goal.returns
returns c = only_cut
