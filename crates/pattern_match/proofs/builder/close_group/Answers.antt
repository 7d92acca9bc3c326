use Rattle.pattern_match.proofs.DraftLemmas.{begun_some}
use Rattle.pattern_match.proofs.builder.close_group.Goals as goal

pub drop_last-requires : goal.drop_last-requires
drop_last-requires c = begun_some c.args.code.now c.args.start c.requires
