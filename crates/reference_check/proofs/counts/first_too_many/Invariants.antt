-- None of the objects so far has too much.
use Rattle.std.proofs.Common.{◌≡◌, ℕ, List, take}
use Rattle.reference_check.specs.inner.Ranks.{NoneBreaks}
use Rattle.reference_check.specs.Reached.{HasReach}
use Rattle.reference_check.specs.Rules.{TooMany}
use Rattle.reference_check.proofs.counts.first_too_many.Given as goal

abbrev pub invariant-loop-at : goal.invariant-loop-at
invariant-loop-at l = record {
  stays : l.texts ≡ l.repository;
  none : (m : List ℕ) → HasReach l.repository m l.fn.reach → NoneBreaks l.repository m TooMany (take l.at-index l.fn.reach.objects);
}
