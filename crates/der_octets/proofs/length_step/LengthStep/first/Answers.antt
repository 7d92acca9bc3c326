use Rattle.std.proofs.Common.{◌≡◌, sym, arith, ap, ◌∙◌}
use Rattle.der_octets.specs.Octets.{length_octets}
use Rattle.der_octets.proofs.LengthStepLemmas.{one_octet, bad_first}
use Rattle.der_octets.proofs.length_step.LengthStep.first.Goals as goal

pub returns-then-octet-lt128 : goal.returns-then-octet-lt128
returns-then-octet-lt128 c =
    let value : c.from.result ≡ c.args.octet = c.from.ensures in
    let r = one_octet c.args.octet c.if-octet-lt128.true in
    (omega (arith, value, r.0), r.1 ∙ ap length_octets (sym value))

pub returns-then-not-is_count : goal.returns-then-not-is_count
returns-then-not-is_count c = bad_first c.args.octet (omega (arith, c.if-octet-lt128.false)) (λ low high. absurd (let yes = c.if-not-is_count.ensures.1 (low, high) in cc))
