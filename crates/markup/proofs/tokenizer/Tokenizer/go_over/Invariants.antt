-- The token goes on with the bytes so far.
use Rattle.std.proofs.Common.{length}
use Rattle.markup.proofs.InsideLemmas.{IsOverFront}
use Rattle.markup.proofs.tokenizer.Tokenizer.go_over.Given as goal

abbrev pub invariant-loop-count : goal.invariant-loop-count
invariant-loop-count l = IsOverFront l.initial.self l.self l.piece l.rest

abbrev pub decreases-loop-count : goal.decreases-loop-count
decreases-loop-count l = length l.rest
