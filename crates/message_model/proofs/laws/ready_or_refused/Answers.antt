use Rattle.message_model.proofs.OneRefusal.{ready_or_refused}
use Rattle.message_model.proofs.laws.ready_or_refused.Goals as goal

pub returns : goal.returns
returns c = ready_or_refused
