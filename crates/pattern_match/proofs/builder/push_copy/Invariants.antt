use Rattle.std.proofs.Common.{◌≡◌, ◌++◌, drop}
use Rattle.pattern_match.specs.inner.Drafting.{full_cells}
use Rattle.pattern_match.proofs.builder.push_copy.Given as goal

-- the code so far, and what is left of the fragment
abbrev pub invariant-loop-instruction : goal.invariant-loop-instruction
invariant-loop-instruction l = l.code ++ full_cells (drop l.instruction-index l.instruction-items) ≡ l.initial.code ++ full_cells l.instruction-items
