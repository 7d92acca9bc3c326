use Rattle.data_types.proofs.LeavesByKind.{binary_leaves}
use Rattle.data_types.proofs.laws.binary_leaves_are_octets.Goals as goal

pub returns : goal.returns
returns c = binary_leaves
