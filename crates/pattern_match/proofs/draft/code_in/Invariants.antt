use Rattle.std.proofs.Common.{◌≡◌, ◌++◌, drop}
use Rattle.pattern_match.specs.inner.Drafting.{live}
use Rattle.pattern_match.proofs.draft.code_in.Given as goal

-- the code so far, and that of the cells that are left
abbrev pub invariant-loop-cell : goal.invariant-loop-cell
invariant-loop-cell l = l.code.items ++ live (drop l.cell-index l.cell-items) ≡ live l.cell-items
