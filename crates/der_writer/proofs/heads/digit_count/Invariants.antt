-- The digits that were counted are those that are no longer left.
use Rattle.std.proofs.Common.{◌≡◌, ◌+◌, length}
use Rattle.std.specs.Int.Digits.{digits_of}
use Rattle.der_writer.proofs.heads.digit_count.Given as goal

abbrev pub invariant-loop-left : goal.invariant-loop-left
invariant-loop-left l = length (digits_of 256 l.fn.number) ≡ length (digits_of 256 l.left) + l.count

abbrev pub decreases-loop-left : goal.decreases-loop-left
decreases-loop-left l = l.left
