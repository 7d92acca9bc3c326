use Rattle.std.proofs.Common.{arith}
use Rattle.drill.proofs.PathLemmas.{stem_open, stem_left}
use Rattle.drill.proofs.stem.Stem.leave.Goals as goal

pub close-requires : goal.close-requires
close-requires c = stem_open c.requires.0 _ c.requires.1

pub returns : goal.returns
returns c = λ p h. stem_left p _ _ h (omega arith) c.in_ok-close.ensures.ok (omega arith)
