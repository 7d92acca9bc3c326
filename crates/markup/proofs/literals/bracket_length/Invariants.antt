-- The bytes so far are `]`.
use Rattle.std.proofs.Common.{length}
use Rattle.markup.proofs.BracketRuns.{AreBrackets}
use Rattle.markup.proofs.literals.bracket_length.Given as goal

abbrev pub invariant-loop-first : goal.invariant-loop-first
invariant-loop-first l = AreBrackets l.piece l.count l.rest

abbrev pub decreases-loop-first : goal.decreases-loop-first
decreases-loop-first l = length l.rest
