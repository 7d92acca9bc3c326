-- No object so far breaks the rule.
use Rattle.std.proofs.Common.{◌≡◌, ℕ, ◌<◌, List, Some, get_or}
use Rattle.std.specs.Prelude.{slice_get}
use Rattle.repo_objects.specs.Repository.{DictionaryEntry}
use Rattle.reference_check.specs.Graph.{entry}
use Rattle.reference_check.specs.Reached.{HasReach}
use Rattle.reference_check.specs.Rules.{Breaks}
use Rattle.reference_check.specs.inner.Subjects.{asked_rule}
use Rattle.reference_check.proofs.structure.StructureRule.first_breaking.Given as goal

abbrev pub invariant-loop-at : goal.invariant-loop-at
invariant-loop-at l = (m : List ℕ) → HasReach l.repository m l.reach
    → (i : ℕ) (e : DictionaryEntry) → i < l.at-index → slice_get l.repository.objects (get_or l.reach.objects i 0) ≡ Some e → Breaks l.repository m (asked_rule l.self) (entry e.id) → ⊥
