use Rattle.std.proofs.Common.{◌≡◌, ◌*◌, ◌^◌, ◌<◌}
use Rattle.lexical_core.proofs.real.without_zeros.Given as goal

abbrev pub invariant-loop-size : goal.invariant-loop-size
invariant-loop-size l = record { same : l.fn.size ≡ l.size * 10 ^ l.zeros; some : 0 < l.size }

abbrev pub decreases-loop-size : goal.decreases-loop-size
decreases-loop-size l = l.size
