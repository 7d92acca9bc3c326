use Rattle.std.proofs.Common.{sym, subst}
use Rattle.der_codec.specs.KeptOctets.{IsKeptUnder}
use Rattle.der_codec.proofs.CutContents.{short_kept}
use Rattle.der_codec.proofs.limits.cut_short.Goals as goal

pub returns-clause-kept : goal.returns-clause-kept
returns-clause-kept c =
    let octets = c.args.kept.now.items in
    subst (λ z. IsKeptUnder c.args.simple.now z octets) (sym c.truncate.ensures.items) (short_kept c.args.simple.now octets c.requires.kind c.requires.sorted)
