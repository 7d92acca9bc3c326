-- The rules are asked in the order of their numbers.
use Rattle.std.proofs.Common.{subst, arith}
use Rattle.reference_check.specs.inner.Subjects.{asked_rule}
use Rattle.reference_check.specs.inner.Told.{IsSoundBelow}
use Rattle.reference_check.proofs.RuleNumbers.{tells_lowest, next_number, at_most_ten}
use Rattle.reference_check.proofs.structure.refuse_structure.Goals as goal

pub returns-in-Err-clause-broken : goal.returns-in-Err-clause-broken
returns-in-Err-clause-broken c = λ has below.
    let R = c.args.repository.now in
    let m = c.args.message.now in
    let rule = asked_rule c.in-Some.rule in
    tells_lowest R m rule c.in-Err.error (let h = at_most_ten c.in-Some.rule in omega arith)
    (subst (λ o. IsSoundBelow R m (next_number o)) c.in-Some.is (c.loop-next.invariant has below))
    (c.in-Err.ensures.told rule c.number.ensures (c.in_ok-first.ensures m has))
