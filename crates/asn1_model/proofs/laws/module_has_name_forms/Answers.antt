use Rattle.asn1_model.proofs.laws.module_has_name_forms.Goals as goal
use Rattle.asn1_model.proofs.ReadyModule as ready

pub returns : goal.returns
returns c = ready.has_name_forms
