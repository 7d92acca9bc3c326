-- None of the elements so far is one.
use Rattle.std.proofs.Common.{◌≡◌, ℕ, ◌<◌, get_or, false}
use Rattle.repo_objects.specs.declared.objects.ElementDef.{ElementDef}
use Rattle.reference_check.specs.Names.{is_profile_name}
use Rattle.reference_check.proofs.names.has_bad_tag.Given as goal

abbrev pub invariant-loop-element : goal.invariant-loop-element
invariant-loop-element l = (k : ℕ) (e : ElementDef) → k < l.element-index → get_or l.elements k e ≡ e → is_profile_name e.tag ≡ false → ⊥
