use Rattle.std.proofs.Common.{◌++◌, arith, length-append}
use Rattle.der_codec.proofs.open_envelope.OpenEnvelope.take.Goals as goal

pub invariant_of-self : goal.invariant_of-self
invariant_of-self c =
    let g = c.requires in
    let sum = length-append g.0 c.args.octets.now in
    let room = g.2 in
    record { given = ∣ (g.0 ++ c.args.octets.now, c.in-Ok.ensures g.0 g.1, omega (arith, sum, room)) ∣₁ }
