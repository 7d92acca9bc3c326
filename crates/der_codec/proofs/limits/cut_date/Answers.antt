use Rattle.der_codec.proofs.CutContents.{date_kept}
use Rattle.der_codec.proofs.limits.cut_date.Goals as goal

pub returns-clause-kept : goal.returns-clause-kept
returns-clause-kept c = date_kept c.args.simple.now c.shorten_text.new.kept.items c.args.kept.now.items c.requires.kind c.requires.sorted c.shorten_text.ensures.kept
