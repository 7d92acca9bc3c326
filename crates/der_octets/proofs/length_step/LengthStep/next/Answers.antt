use Rattle.std.proofs.Common.{sym, subst, refl, arith, ap, ◌∙◌}
use Rattle.der_octets.specs.Octets.{length_octets}
use Rattle.der_octets.specs.LengthSteps.{HasBegun}
use Rattle.der_octets.proofs.LengthStepLemmas.{bad_lead, small_value, and_more, all_octets}
use Rattle.der_octets.proofs.length_step.LengthStep.next.Goals as goal

pub returns-then-not-may_come : goal.returns-then-not-may_come
returns-then-not-may_come c = λ octets begun n more small e.
    let no = c.if-not-may_come.ensures.no refl in
    bad_lead c.args.self.now.count c.args.self.now.value c.args.octet octets (subst (λ z. HasBegun c.args.self.now.count z c.args.self.now.value octets) no.0 begun) no.1 n more small e

pub appended-self-requires : goal.appended-self-requires
appended-self-requires c = small_value c.args.self.now.count c.args.self.now.come c.args.self.now.value c.requires.0 c.requires.1

pub returns-then-self : goal.returns-then-self
returns-then-self c = λ octets begun.
    let value = c.appended-self.ensures in
    let r = all_octets c.args.self.now.count c.args.self.now.come c.args.self.now.value c.args.octet octets begun (c.if-not-may_come.ensures.yes refl) c.ranges.octet.fits c.if-self.true in
    (omega (arith, value, r.0), r.1 ∙ ap length_octets (sym value))

pub returns : goal.returns
returns c = λ octets begun.
    and_more c.args.self.now.count c.args.self.now.come c.args.self.now.value c.appended-self.result c.args.octet octets begun (c.if-not-may_come.ensures.yes refl) c.ranges.octet.fits c.if-self.false c.appended-self.ensures
