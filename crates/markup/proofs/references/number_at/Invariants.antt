-- The digits so far spell the number.
use Rattle.std.proofs.Common.{length}
use Rattle.markup.proofs.NumberedReferences.{IsCounting}
use Rattle.markup.proofs.references.number_at.Given as goal

abbrev pub invariant-loop-byte : goal.invariant-loop-byte
invariant-loop-byte l = IsCounting l.radix l.digits l.number l.rest

abbrev pub decreases-loop-byte : goal.decreases-loop-byte
decreases-loop-byte l = length l.rest
