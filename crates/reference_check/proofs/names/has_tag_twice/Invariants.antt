-- The tags so far are kept, and are distinct.
use Rattle.std.proofs.Common.{List, ℕ, map, Bor}
use Rattle.reference_check.proofs.Tags.{AreTags}
use Rattle.reference_check.proofs.names.has_tag_twice.Given as goal

abbrev pub invariant-loop-element : goal.invariant-loop-element
invariant-loop-element l = AreTags l.elements l.element-index (map (λ (tag : Bor (List ℕ)). tag.now) l.tags.keys)
