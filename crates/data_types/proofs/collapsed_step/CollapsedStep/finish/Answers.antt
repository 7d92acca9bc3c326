use Rattle.std.proofs.Common.{subst, sym}
use Rattle.data_types.specs.declared.kind.Kind.{Kind}
use Rattle.data_types.specs.declared.collapsed_step.Value.{Value}
use Rattle.data_types.specs.LeafAnswers.{IsLeafAnswer}
use Rattle.data_types.specs.LeafSteps.{HasValue}
use Rattle.data_types.proofs.collapsed_step.CollapsedStep.finish.Goals as goal

pub returns-in-Decimal : goal.returns-in-Decimal
returns-in-Decimal c = λ most chars (collapsed, has, value).
    let held = subst (λ (b : Value). HasValue c.args.kind b most chars collapsed) c.in-Decimal.is value in
    subst (λ (k : Kind). IsLeafAnswer k most chars c.decimal_leaf.result) (sym held.0) (c.decimal_leaf.ensures most chars collapsed (c.finish.ensures chars collapsed has) held.1)

pub returns-in-Short : goal.returns-in-Short
returns-in-Short c = λ most chars (collapsed, has, value).
    let held = subst (λ (b : Value). HasValue c.args.kind b most chars collapsed) c.in-Short.is value in
    c.short_leaf.ensures most chars collapsed held.0 (c.finish.ensures chars collapsed has) held.1

pub returns-in-Octets : goal.returns-in-Octets
returns-in-Octets c = λ most chars (collapsed, has, value).
    let held = subst (λ (b : Value). HasValue c.args.kind b most chars collapsed) c.in-Octets.is value in
    subst (λ (k : Kind). IsLeafAnswer k most chars c.binary_leaf.result) (sym held.0) (c.binary_leaf.ensures most chars collapsed (c.finish.ensures chars collapsed has) held.1)
