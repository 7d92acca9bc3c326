use Rattle.std.proofs.Common.{subst}
use Rattle.data_types.specs.declared.leaf_step.Body.{Body}
use Rattle.data_types.specs.LeafSteps.{HasBody}
use Rattle.data_types.proofs.leaf_step.LeafStep.restart.Goals as goal

pub returns-in-Collapsed-clause-taken : goal.returns-in-Collapsed-clause-taken
returns-in-Collapsed-clause-taken c = λ kind most chars (is, body).
    (is, c.restart-in-Collapsed.ensures.taken kind most chars (subst (λ (b : Body). HasBody kind b most chars) c.in-Collapsed.is body))
