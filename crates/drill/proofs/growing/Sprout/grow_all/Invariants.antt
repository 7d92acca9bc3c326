use Rattle.rand_pcg.specs.Lcg.{Lcg}
use Rattle.drill.specs.Growing.{first_growth, growth_of}
use Rattle.drill.specs.inner.PathPieces.{HasGrown}
use Rattle.drill.proofs.growing.Sprout.grow_all.Given as goal

abbrev pub invariant-loop-i : goal.invariant-loop-i
invariant-loop-i l = (generator : Lcg) → HasGrown (first_growth generator) l.fn.self → HasGrown (growth_of l.i generator) l.self
