-- The bytes so far are characters that stand by themselves, and the literal bytes at the front do not end within the last of them.
use Rattle.std.proofs.Common.{◌+◌, ◌≤◌, length}
use Rattle.std.specs.List.{prefix_len}
use Rattle.markup.specs.Literals.{is_still_literal}
use Rattle.markup.proofs.LiteralRuns.{IsWalkedFree}
use Rattle.markup.proofs.literals.literal_extent.Given as goal

abbrev pub invariant-loop-size : goal.invariant-loop-size
invariant-loop-size l = IsWalkedFree l.piece l.bytes l.characters l.rest × (prefix_len is_still_literal l.piece ≤ l.bytes + prefix_len is_still_literal l.rest)

abbrev pub decreases-loop-size : goal.decreases-loop-size
decreases-loop-size l = length l.rest
