-- None of the objects so far has a name of another.
use Rattle.std.proofs.Common.{ℕ, List, take}
use Rattle.reference_check.specs.inner.Ranks.{NoneBreaks}
use Rattle.reference_check.specs.Reached.{HasReach}
use Rattle.reference_check.specs.Rules.{NameTwice}
use Rattle.reference_check.proofs.schema_names.first_name_twice.Given as goal

abbrev pub invariant-loop-at : goal.invariant-loop-at
invariant-loop-at l = (m : List ℕ) → HasReach l.repository m l.fn.reach → NoneBreaks l.repository m NameTwice (take l.at-index l.fn.reach.objects)
