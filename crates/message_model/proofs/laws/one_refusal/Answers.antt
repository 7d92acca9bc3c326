use Rattle.message_model.proofs.OneRefusal.{one_refusal}
use Rattle.message_model.proofs.laws.one_refusal.Goals as goal

pub returns : goal.returns
returns c = one_refusal
