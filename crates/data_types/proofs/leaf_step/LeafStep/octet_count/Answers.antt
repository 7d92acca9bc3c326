use Rattle.std.proofs.Common.{subst}
use Rattle.data_types.specs.declared.leaf_step.Body.{Body}
use Rattle.data_types.specs.LeafSteps.{HasBody}
use Rattle.data_types.proofs.leaf_step.LeafStep.octet_count.Goals as goal

pub returns-in-Collapsed : goal.returns-in-Collapsed
returns-in-Collapsed c = λ kind most chars (is, body).
    c.octet_count.ensures kind most chars (subst (λ (b : Body). HasBody kind b most chars) c.in-Collapsed.is body)
