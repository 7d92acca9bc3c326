use Rattle.std.proofs.Common.{arith, refl}
use Rattle.der_octets.specs.TagSteps.{tag_view}
use Rattle.der_octets.proofs.TagStepLemmas.{third_done, third_bad}
use Rattle.der_octets.proofs.tag_step.TagStep.take_third.Goals as goal

pub returns-then-not-is_last : goal.returns-then-not-is_last
returns-then-not-is_last c = λ octets has. third_bad c.args.self.now.first c.args.self.now.high c.args.octet octets has (c.if-not-is_last.ensures.no refl)

pub returns : goal.returns
returns c = λ octets has.
    let id = c.identified.result in
    let low = c.if-not-is_last.ensures.yes refl in
    let number = c.identified.ensures.number in
    let one = c.from.ensures in
    let two = c.from-2.ensures in
    third_done id.constructed (tag_view id) c.args.self.now.first c.args.self.now.high c.args.octet octets has low c.identified.ensures.bits (omega (arith, number, one, two))
