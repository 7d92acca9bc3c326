-- The bytes so far are a front of a character.
use Rattle.std.proofs.Common.{length}
use Rattle.markup.proofs.LiteralRuns.{IsBegun}
use Rattle.markup.proofs.literals.size_at.Given as goal

abbrev pub invariant-loop-byte : goal.invariant-loop-byte
invariant-loop-byte l = IsBegun l.piece l.utf8 l.count l.rest

abbrev pub decreases-loop-byte : goal.decreases-loop-byte
decreases-loop-byte l = length l.rest
