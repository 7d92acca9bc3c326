use Rattle.std.proofs.Common.{refl}
use Rattle.data_types.proofs.WordRuns.{ends_all}
use Rattle.data_types.proofs.words.are_ends_above.Goals as goal

pub returns-then-are_four_above : goal.returns-then-are_four_above
returns-then-are_four_above c above = ends_all _ 4 c.args.last c.args.codes.now c.requires.length c.requires.last (c.if-are_four_above.ensures refl) (c.are_four_above-then-are_four_above.ensures above)
