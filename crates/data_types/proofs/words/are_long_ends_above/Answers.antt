use Rattle.std.proofs.Common.{refl}
use Rattle.data_types.proofs.WordRuns.{ends_all}
use Rattle.data_types.proofs.words.are_long_ends_above.Goals as goal

pub returns-then-are_eight_above : goal.returns-then-are_eight_above
returns-then-are_eight_above c above = ends_all _ 8 c.args.last c.args.codes.now c.requires.length c.requires.last (c.if-are_eight_above.ensures refl) (c.are_eight_above-then-are_eight_above.ensures above)
