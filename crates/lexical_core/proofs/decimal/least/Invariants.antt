use Rattle.std.proofs.Common.{◌≡◌, ◌*◌, ◌^◌, ◌≤◌}
use Rattle.lexical_core.proofs.decimal.least.Given as goal

abbrev pub invariant-loop-scale : goal.invariant-loop-scale
invariant-loop-scale l = record { same : l.size * 10 ^ l.fn.scale ≡ l.fn.size * 10 ^ l.scale; size : l.size ≤ l.fn.size; scale : l.scale ≤ l.fn.scale }

abbrev pub decreases-loop-scale : goal.decreases-loop-scale
decreases-loop-scale l = l.scale
