use Rattle.std.proofs.Common.{refl}
use Rattle.data_types.proofs.WordRuns.{ends_all}
use Rattle.data_types.proofs.words.are_longer_ends_above.Goals as goal

pub returns-then-are_sixteen_above : goal.returns-then-are_sixteen_above
returns-then-are_sixteen_above c above = ends_all _ 16 c.args.last c.args.codes.now c.requires.length c.requires.last (c.if-are_sixteen_above.ensures refl) (c.are_sixteen_above-then-are_sixteen_above.ensures above)
