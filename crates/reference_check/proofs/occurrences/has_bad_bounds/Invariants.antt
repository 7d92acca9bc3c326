-- None of the elements so far is one.
use Rattle.std.proofs.Common.{◌≡◌, ℕ, ◌<◌, get_or}
use Rattle.repo_objects.specs.declared.objects.ElementDef.{ElementDef}
use Rattle.reference_check.specs.Rules.{UpToMax}
use Rattle.reference_check.proofs.occurrences.has_bad_bounds.Given as goal

abbrev pub invariant-loop-element : goal.invariant-loop-element
invariant-loop-element l = (k : ℕ) (e : ElementDef) → k < l.element-index → get_or l.elements k e ≡ e → (UpToMax e.min e.max → ⊥) → ⊥
