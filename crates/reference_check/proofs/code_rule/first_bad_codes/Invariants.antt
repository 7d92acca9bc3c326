-- None of the objects so far has bad codes.
use Rattle.std.proofs.Common.{◌≡◌, ℕ, List, take}
use Rattle.reference_check.specs.inner.Ranks.{NoneBreaks}
use Rattle.reference_check.specs.Reached.{HasReach}
use Rattle.reference_check.specs.Rules.{BadCodes}
use Rattle.reference_check.proofs.code_rule.first_bad_codes.Given as goal

abbrev pub invariant-loop-at : goal.invariant-loop-at
invariant-loop-at l = record {
  stays : l.texts ≡ l.repository;
  none : (m : List ℕ) → HasReach l.repository m l.fn.reach → NoneBreaks l.repository m BadCodes (take l.at-index l.fn.reach.objects);
}
