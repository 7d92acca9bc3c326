-- Those before the index have their names.
use Rattle.std.proofs.Common.{◌≡◌, ◌++◌, map, take, drop}
use Rattle.markup.specs.TagAttributes.{tag_entry}
use Rattle.markup.specs.inner.TagParts.{bound_entry}
use Rattle.markup.proofs.attributes.name_all.Given as goal

abbrev pub invariant-loop-attribute : goal.invariant-loop-attribute
invariant-loop-attribute l = map tag_entry (take l.attribute-index l.attribute-items) ++ map (bound_entry l.bindings) (drop l.attribute-index l.attribute-items) ≡ map (bound_entry l.bindings) l.fn.attributes.items
