-- Why an element is not taken.
use Rattle.std.specs.Prelude.{◌≡◌, List}
use Rattle.std.specs.Prelude.{ℕ, ◌≤◌}
use Rattle.lexical_core.specs.Tree.{Entry as Attribute}
use Rattle.repo_objects.specs.declared.objects.ObjectKind.{ObjectKind}
use Rattle.repo_loader.specs.declared.stop.Stop.{Stop}
use Rattle.repo_loader.specs.declared.stop.Stop.TheVariants.{Rule, Memory}
use Rattle.repo_loader.specs.Selected.{FileTag}
use Rattle.repo_loader.specs.FileFaults.{HasOccurrences, HasFacetNumbers, HasNumbers, BreaksTagRule}
use Rattle.repo_loader.specs.declared.part.Part.{Part}

-- its numbers are none
abbrev pub TellsOccurrences : List Attribute → Stop → Type 0
TellsOccurrences attributes (Rule n) = (n ≡ 4) × (HasOccurrences attributes → ⊥)
TellsOccurrences attributes Memory = Unit {0}

abbrev pub TellsFacets : ObjectKind → List Attribute → Stop → Type 0
TellsFacets kind attributes (Rule n) = (n ≡ 4) × (HasFacetNumbers kind attributes → ⊥)
TellsFacets kind attributes Memory = Unit {0}

-- behind these elements the element breaks no rule, or this is the least
abbrev pub IsSoundTag : List FileTag → FileTag → Type 0
IsSoundTag tags t = (rule : ℕ) → BreaksTagRule tags t rule → ⊥

abbrev pub IsLeastTagRule : List FileTag → FileTag → ℕ → Type 0
IsLeastTagRule tags t rule = BreaksTagRule tags t rule × ((other : ℕ) → BreaksTagRule tags t other → rule ≤ other)

abbrev pub TellsStop : List FileTag → FileTag → Stop → Type 0
TellsStop tags t (Rule n) = IsLeastTagRule tags t n
TellsStop tags t Memory = Unit {0}

abbrev pub TellsNumbers : Part → List Attribute → Stop → Type 0
TellsNumbers part attributes (Rule n) = (n ≡ 4) × (HasNumbers part attributes → ⊥)
TellsNumbers part attributes Memory = Unit {0}
