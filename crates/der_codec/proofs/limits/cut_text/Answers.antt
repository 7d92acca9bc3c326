use Rattle.der_codec.proofs.CutContents.{text_kept}
use Rattle.der_codec.proofs.limits.cut_text.Goals as goal

pub returns-clause-kept : goal.returns-clause-kept
returns-clause-kept c =
    text_kept c.args.simple.now c.shorten_text.new.kept.items c.args.kept.now.items c.in-Some.most c.requires.kind c.requires.codes c.in-Some.is c.requires.sorted c.shorten_text.ensures.kept
