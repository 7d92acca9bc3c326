-- None of the elements so far is one.
use Rattle.std.proofs.Common.{◌≡◌, ℕ, ◌<◌, get_or, length}
use Rattle.repo_objects.specs.declared.objects.ElementDef.{ElementDef}
use Rattle.reference_check.specs.Graph.{references}
use Rattle.reference_check.proofs.references.names_not_one.Given as goal

abbrev pub invariant-loop-element : goal.invariant-loop-element
invariant-loop-element l = (k : ℕ) (e : ElementDef) → k < l.element-index → get_or l.elements k e ≡ e → (length (references e) ≡ 1 → ⊥) → ⊥
