use Rattle.std.proofs.Common.{subst, sym}
use Rattle.data_types.specs.declared.kind.Kind.{Kind}
use Rattle.data_types.specs.declared.collapsed_step.Value.{Value}
use Rattle.data_types.specs.Binaries.{without_spaces}
use Rattle.data_types.specs.LeafAnswers.{IsOctetCount}
use Rattle.data_types.specs.LeafSteps.{HasValue}
use Rattle.data_types.proofs.LeafLemmas.{binary_count}
use Rattle.data_types.proofs.collapsed_step.CollapsedStep.octet_count.Goals as goal

pub returns-in-Octets : goal.returns-in-Octets
returns-in-Octets c = λ kind most chars (collapsed, has, value).
    let held = subst (λ (b : Value). HasValue kind b most chars collapsed) c.in-Octets.is value in
    subst (λ (k : Kind). IsOctetCount k chars c.octet_count.result) (sym held.0)
    (binary_count chars collapsed c.octet_count.result (c.finish.ensures chars collapsed has) (c.octet_count.ensures most (without_spaces collapsed) held.1))
