-- From the attribute before the next on it is so where it is so of all.
use Rattle.std.proofs.Common.{◌≡◌, ◌≤◌, ◌-◌, drop, map}
use Rattle.markup.specs.inner.TagParts.{bound_entry, has_twins}
use Rattle.markup.proofs.attributes.has_twins.Given as goal

abbrev pub invariant-loop-next : goal.invariant-loop-next
invariant-loop-next l = (1 ≤ l.next) × (has_twins (map (bound_entry l.bindings) (drop (l.next - 1) l.attributes)) ≡ has_twins (map (bound_entry l.bindings) l.attributes))
