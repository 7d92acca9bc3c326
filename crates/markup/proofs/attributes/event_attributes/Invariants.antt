-- The attributes before are told.
use Rattle.std.proofs.Common.{◌≡◌, ◌++◌, drop, map}
use Rattle.markup.specs.TagAttributes.{tag_entry}
use Rattle.markup.specs.EventItems.{entry_of}
use Rattle.markup.proofs.attributes.event_attributes.Given as goal

abbrev pub invariant-loop-attribute : goal.invariant-loop-attribute
invariant-loop-attribute l = map entry_of l.attrs.items ++ map tag_entry (drop l.attribute-index l.attributes) ≡ map tag_entry l.attributes
