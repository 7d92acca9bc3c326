use Rattle.std.specs.Cmp.{booleans_Decides}
use Rattle.std.proofs.lemmas.Slice.Eq.{slice_eq-Decides}
use Rattle.pattern_match.proofs.recall.are_same.Goals as goal

pub returns : goal.returns
returns c h = (slice_eq-Decides booleans_Decides c.args.xs.now c.args.ys.now c.eq.result c.eq.ensures).0 h
