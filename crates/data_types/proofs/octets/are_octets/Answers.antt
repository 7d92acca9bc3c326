use Rattle.std.proofs.Common.{arith}
use Rattle.data_types.proofs.octets.are_octets.Goals as goal

pub returns : goal.returns
returns c = λ i. let fits = c.type_inv.octets i in omega (arith, fits)
