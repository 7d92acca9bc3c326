-- What follows of the definitions.
use Rattle.std.specs.Prelude.{◌≡◌, ℕ, Bool, IsTrue, ◌↔◌, List, length, Contains}
use Rattle.repo_objects.specs.declared.objects.ElementDef.{ElementDef}
use Rattle.repo_objects.specs.Repository.{Contents}
use Rattle.reference_check.specs.Graph.{Place, graph, references}
use Rattle.reference_check.specs.Shapes.{IsFinite, MayBeFound}
use Rattle.reference_check.specs.Reach.{elements_of, Reaches}
use Rattle.reference_check.specs.Rules.{IsSound, IsStructure}

-- Places are marked of which each has a finite instance, and another round marks no more of those that are reached. Where each element names
-- one object, the marked ones of the reached are those with a finite instance.
abbrev pub FindsTheFinite : Type 0
FindsTheFinite = (R : Contents) (m : List ℕ) (marked : Place → Bool)
    → ((p : Place) → IsTrue (marked p) → IsFinite (graph R m) p)
    → ((p : Place) → Reaches R m p → MayBeFound (λ q. IsTrue (marked q)) (graph R m p) → IsTrue (marked p))
    → ((p : Place) (e : ElementDef) → Reaches R m p → Contains (elements_of R m p) e → length (references e) ≡ 1)
    → (p : Place) → Reaches R m p → IsTrue (marked p) ↔ IsFinite (graph R m) p

-- A message that breaks no rule of structure reaches finite objects alone.
abbrev pub ReadyAreFinite : Type 0
ReadyAreFinite = (R : Contents) (m : List ℕ) → IsSound R m IsStructure → (p : Place) → Reaches R m p → IsFinite (graph R m) p
