-- None of the elements so far is one.
use Rattle.std.proofs.Common.{◌≡◌, ℕ, ◌<◌, get_or}
use Rattle.repo_objects.specs.declared.objects.ElementDef.{ElementDef}
use Rattle.reference_check.specs.Graph.{references}
use Rattle.reference_check.specs.inner.Subjects.{NamesNoEntry}
use Rattle.reference_check.proofs.references.have_dangling.Given as goal

abbrev pub invariant-loop-element : goal.invariant-loop-element
invariant-loop-element l = (k : ℕ) (e : ElementDef) → k < l.element-index → get_or l.elements k e ≡ e → NamesNoEntry l.repository (references e) → ⊥
