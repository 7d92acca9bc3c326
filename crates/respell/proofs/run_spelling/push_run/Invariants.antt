-- What is pushed of the run, and what is left of it.
use Rattle.std.proofs.Common.{◌≡◌, ◌++◌, length}
use Rattle.respell.specs.inner.RunBytes.{run_bytes}
use Rattle.respell.proofs.run_spelling.push_run.Given as goal

abbrev pub invariant-loop-left : goal.invariant-loop-left
invariant-loop-left l = l.text ++ run_bytes l.left ≡ l.fn.text ++ run_bytes l.fn.run

abbrev pub decreases-loop-left : goal.decreases-loop-left
decreases-loop-left l = length l.left
