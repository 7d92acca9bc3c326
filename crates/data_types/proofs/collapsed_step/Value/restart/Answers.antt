use Rattle.std.proofs.Common.{subst, arith}
use Rattle.data_types.specs.declared.collapsed_step.Value.{Value}
use Rattle.data_types.specs.Binaries.{without_spaces}
use Rattle.data_types.specs.LeafSteps.{HasValue}
use Rattle.data_types.proofs.collapsed_step.Value.restart.Goals as goal

pub returns-in-Octets-clause-taken : goal.returns-in-Octets-clause-taken
returns-in-Octets-clause-taken c = λ kind most chars collapsed has.
    let held = subst (λ (b : Value). HasValue kind b most chars collapsed) c.in-Octets.is has in
    let none = c.restart.ensures.count in
    (held.0, c.restart.ensures.text most (without_spaces collapsed) held.1, omega (arith, none))
