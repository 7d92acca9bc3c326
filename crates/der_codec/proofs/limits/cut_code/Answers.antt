use Rattle.std.proofs.Common.{sym, subst}
use Rattle.der_codec.specs.KeptOctets.{IsKeptUnder}
use Rattle.der_codec.proofs.CutContents.{code_kept}
use Rattle.der_codec.proofs.limits.cut_code.Goals as goal

pub returns-clause-kept : goal.returns-clause-kept
returns-clause-kept c =
    let octets = c.args.kept.now.items in
    let codes = c.requires.codes in
    subst (λ z. IsKeptUnder c.args.simple.now z octets) (sym c.truncate.ensures.items) (code_kept c.args.simple.now codes.0 octets c.requires.kind codes.1 c.requires.limits c.requires.sorted)
