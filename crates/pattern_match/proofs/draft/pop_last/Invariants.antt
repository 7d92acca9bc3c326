use Rattle.std.proofs.Common.{◌≡◌, ◌++◌, length, Option, List, []}
use Rattle.pattern_match.specs.declared.instruction.Instruction.{Instruction}
use Rattle.pattern_match.specs.inner.Drafting.{live}
use Rattle.pattern_match.proofs.draft.pop_last.Given as goal

-- the cells that were taken are empty
abbrev pub invariant-loop-cell : goal.invariant-loop-cell
invariant-loop-cell l = (empty : List (Option Instruction)) × (l.initial.cells.items ≡ l.cells.items ++ empty) × (live empty ≡ [])

abbrev pub decreases-loop-cell : goal.decreases-loop-cell
decreases-loop-cell l = length l.cells.items
