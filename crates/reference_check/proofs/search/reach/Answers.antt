-- What is told is the lowest rule that is broken.
use Rattle.std.proofs.Common.{subst, refl, arith}
use Rattle.reference_check.specs.inner.First.{TellsFirst}
use Rattle.reference_check.specs.Reached.{HasReach, TellsBroken}
use Rattle.reference_check.specs.Rules.{Endless, IsStructure}
use Rattle.reference_check.specs.inner.Told.{IsSoundBelow}
use Rattle.reference_check.proofs.RuleNumbers.{tells_lowest}
use Rattle.reference_check.proofs.search.reach.Goals as goal

pub returns-in-Err-clause-broken : goal.returns-in-Err-clause-broken
returns-in-Err-clause-broken c =
    let R = c.args.repository.now in
    let m = c.bytes-message.result.now in
    let has : HasReach R m c.in_ok-reach.reach = c.in_ok-reach.ensures m c.in_ok-at.ensures.message.0 c.in_ok-at.ensures.message.1 in
    let below : IsSoundBelow R m 11 = c.in_ok-refuse_structure.ensures.sound has c.in_ok-at.ensures.sound in
    let endless : TellsFirst R m Endless c.in_ok-endless.endless = c.in_ok-endless.ensures m has (λ r p asked. below r p (omega arith)) in
    subst (λ x. TellsBroken R x IsStructure c.in-Err.error) c.bytes-message.ensures.value
    (tells_lowest R m Endless c.in-Err.error (omega arith) below (c.in-Err.ensures.told Endless refl endless))
