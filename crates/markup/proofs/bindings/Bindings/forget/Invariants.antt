-- As many declarations are closed as the loop has counted.
use Rattle.std.proofs.Common.{List, drop}
use Rattle.markup.specs.declared.tag.Given.{Given}
use Rattle.markup.specs.inner.Bindings.{Binds}
use Rattle.markup.proofs.bindings.Bindings.forget.Given as goal

abbrev pub invariant-loop-closed : goal.invariant-loop-closed
invariant-loop-closed l = (declared : List Given) → Binds l.fn.self declared → Binds l.self (drop l._closed declared)
