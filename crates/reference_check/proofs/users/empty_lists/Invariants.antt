use Rattle.std.proofs.Common.{◌≡◌, length}
use Rattle.reference_check.proofs.users.empty_lists.Given as goal

-- one list for each step
abbrev pub invariant-loop : goal.invariant-loop
invariant-loop l = length l.lists.items ≡ l.counter
