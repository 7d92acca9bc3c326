-- The attributes before are handed on.
use Rattle.std.proofs.Common.{◌≡◌, ◌++◌, drop, map}
use Rattle.markup.specs.TagAttributes.{tag_entry}
use Rattle.markup.specs.EventItems.{entry_of}
use Rattle.markup.proofs.named_values.tag_attributes.Given as goal

abbrev pub invariant-loop-attr : goal.invariant-loop-attr
invariant-loop-attr l = map tag_entry l.attributes.items ++ map entry_of (drop l.attr-index l.attrs) ≡ map entry_of l.attrs
