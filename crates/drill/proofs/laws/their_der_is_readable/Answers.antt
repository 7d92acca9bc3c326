use Rattle.drill.proofs.DerReadable.{der_is_readable}
use Rattle.drill.proofs.laws.their_der_is_readable.Goals as goal

pub returns : goal.returns
returns c = der_is_readable
