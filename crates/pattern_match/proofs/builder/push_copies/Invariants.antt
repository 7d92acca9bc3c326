use Rattle.std.proofs.Common.{◌≡◌, ◌++◌, ◌-◌}
use Rattle.pattern_match.specs.Building.{flagged_first, copies_code}
use Rattle.pattern_match.specs.inner.Drafting.{full_cells}
use Rattle.pattern_match.proofs.builder.push_copies.Given as goal

-- the code so far, and the copies that are left
abbrev pub invariant-loop-i : goal.invariant-loop-i
invariant-loop-i l =
    l.code ++ full_cells (copies_code (l.count - l.i) (flagged_first l.optional l.repeated l.fragment))
    ≡ l.initial.code ++ full_cells (copies_code l.count (flagged_first l.optional l.repeated l.fragment))
