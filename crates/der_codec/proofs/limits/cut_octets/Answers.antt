use Rattle.std.proofs.Common.{rules, sym, subst, ◌<◌, length}
use Rattle.base64.specs.GeneralPurpose.{IsBytes}
use Rattle.der_codec.specs.KeptOctets.{IsKeptUnder}
use Rattle.der_codec.proofs.CutContents.{octets_kept}
use Rattle.der_codec.proofs.limits.cut_octets.Goals as goal

pub returns-then-len-most-clause-kept : goal.returns-then-len-most-clause-kept
returns-then-len-most-clause-kept c =
    let octets = c.args.kept.now.items in
    let bytes : IsBytes octets = subst IsBytes c.as_slice.ensures.value c.are_octets.ensures in
    let long : c.in-Some.most < length octets = search rules in
    subst (λ z. IsKeptUnder c.args.simple.now z octets) (sym c.truncate.ensures.items) (octets_kept c.args.simple.now octets c.in-Some.most c.requires.kind c.in-Some.is c.requires.sorted bytes long)
