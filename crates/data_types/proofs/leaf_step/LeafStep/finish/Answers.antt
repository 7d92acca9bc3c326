use Rattle.std.proofs.Common.{subst, sym}
use Rattle.data_types.specs.declared.kind.Kind.{Kind}
use Rattle.data_types.specs.declared.leaf_step.Body.{Body}
use Rattle.data_types.specs.LeafAnswers.{IsLeafAnswer}
use Rattle.data_types.specs.LeafSteps.{HasBody, HasGiven}
use Rattle.data_types.proofs.leaf_step.LeafStep.finish.Goals as goal

pub returns-in-Collapsed : goal.returns-in-Collapsed
returns-in-Collapsed c = λ kind most chars (is, body).
    let held = subst (λ (b : Body). HasBody kind b most chars) c.in-Collapsed.is body in
    subst (λ (k : Kind). IsLeafAnswer k most chars c.finish.result) (sym is)
    (c.finish.ensures most chars (subst (λ (k : Kind). HasGiven c.in-Collapsed.step k most chars) is held))
