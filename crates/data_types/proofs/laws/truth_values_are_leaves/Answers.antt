use Rattle.data_types.proofs.LeavesByKind.{flag_leaves}
use Rattle.data_types.proofs.laws.truth_values_are_leaves.Goals as goal

pub returns : goal.returns
returns c = flag_leaves
