use Rattle.drill.specs.Growing.{Path, path_after}
use Rattle.drill.specs.inner.PathPieces.{HasPath}
use Rattle.drill.proofs.stem.Stem.leave_some.Given as goal

abbrev pub invariant-loop-i : goal.invariant-loop-i
invariant-loop-i l = (p : Path) → HasPath p l.fn.self → HasPath (path_after l.i p) l.self
