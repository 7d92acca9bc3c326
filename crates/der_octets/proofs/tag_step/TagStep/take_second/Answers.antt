use Rattle.std.proofs.Common.{sym, ◌∙◌, refl, ◌-◌}
use Rattle.std.proofs.Math.Arith.{lt_of_le-ne}
use Rattle.der_octets.specs.TagSteps.{tag_view}
use Rattle.der_octets.proofs.TagStepLemmas.{second_done, second_bad, second_more}
use Rattle.der_octets.proofs.tag_step.TagStep.take_second.Goals as goal

pub returns-then-not-may_be_second : goal.returns-then-not-may_be_second
returns-then-not-may_be_second c = λ octets has. second_bad c.args.self.now.first c.args.octet octets has (λ low other. absurd (let yes = c.if-not-may_be_second.ensures.1 (low, other) in cc))

pub returns-then-is_last : goal.returns-then-is_last
returns-then-is_last c = λ octets has.
    let id = c.identified.result in
    let may = c.if-not-may_be_second.ensures.0 refl in
    second_done id.constructed (tag_view id) c.args.self.now.first c.args.octet octets has may.0 (c.if-is_last.ensures.yes refl) c.identified.ensures.bits (c.identified.ensures.number ∙ c.from.ensures)

pub returns : goal.returns
returns c = λ octets has.
    let may = c.if-not-may_be_second.ensures.0 refl in
    second_more c.args.self.now.first c.args.octet (c.args.octet - 128) octets has refl (lt_of_le-ne (c.if-is_last.ensures.no refl) (λ e. may.1 (sym e))) c.ranges.octet.fits
