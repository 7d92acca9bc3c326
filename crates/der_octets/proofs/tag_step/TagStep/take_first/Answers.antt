use Rattle.std.proofs.Common.{arith, ◌∙◌}
use Rattle.der_octets.specs.TagSteps.{tag_view}
use Rattle.der_octets.proofs.TagStepLemmas.{short_done, first_more}
use Rattle.der_octets.proofs.tag_step.TagStep.take_first.Goals as goal

pub returns-then-number-lt31 : goal.returns-then-number-lt31
returns-then-number-lt31 c =
    let id = c.identified.result in
    let number = c.identified.ensures.number ∙ c.from.ensures in
    short_done id.constructed (tag_view id) c.args.octet (let low = c.if-number-lt31.true in omega (arith, low, number)) c.identified.ensures.bits number

pub returns : goal.returns
returns c = first_more c.args.octet c.ranges.octet.fits (let low = c.if-number-lt31.false in omega (arith, low))
