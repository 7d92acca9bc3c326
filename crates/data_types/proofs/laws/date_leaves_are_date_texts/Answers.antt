use Rattle.data_types.proofs.LeavesByKind.{date_leaves}
use Rattle.data_types.proofs.laws.date_leaves_are_date_texts.Goals as goal

pub returns : goal.returns
returns c = date_leaves
