use Rattle.std.proofs.Common.{rules, ◌≡◌, ◌∷◌, [], take, refl, sym, subst}
use Rattle.der_codec.specs.inner.Runs.{AreLengthOctets}
use Rattle.der_codec.proofs.wide.wide_third.Goals as goal

pub returns-in-Done-clause-length : goal.returns-in-Done-clause-length
returns-in-Done-clause-length c =
    let first = c.args.first in
    let second = c.args.second in
    let third = c.in_ok-third.third.now in
    let done = c.in-Done.ensures (first ∷ second ∷ []) c.requires in
    let same : take 1 c.args.behind.now ≡ third ∷ [] = search rules in
    subst (λ z. AreLengthOctets first (second ∷ z) c.in-Done.length) (sym same)
    (record { front = first ∷ second ∷ []; last = third; are = refl; step = c.args.step; taken = c.requires; short = done.0; octets = done.1 })
