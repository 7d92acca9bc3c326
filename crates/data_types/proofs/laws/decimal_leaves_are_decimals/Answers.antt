use Rattle.data_types.proofs.LeavesByKind.{decimal_leaves}
use Rattle.data_types.proofs.laws.decimal_leaves_are_decimals.Goals as goal

pub returns : goal.returns
returns c = decimal_leaves
