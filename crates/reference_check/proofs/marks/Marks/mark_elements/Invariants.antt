-- What the elements so far name is marked.
use Rattle.std.proofs.Common.{take}
use Rattle.std.specs.List.{flat_map}
use Rattle.reference_check.specs.Graph.{references}
use Rattle.reference_check.specs.inner.Marking.{Adds}
use Rattle.reference_check.proofs.marks.Marks.mark_elements.Given as goal

abbrev pub invariant-loop-element : goal.invariant-loop-element
invariant-loop-element l = Adds l.repository (flat_map references (take l.element-index l.elements)) l.fn.self l.self
