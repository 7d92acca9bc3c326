-- The attributes before are of other names.
use Rattle.std.proofs.Common.{drop, map, ◌≡◌}
use Rattle.lexical_core.specs.Names.{attribute_value}
use Rattle.markup.specs.TagAttributes.{tag_entry}
use Rattle.markup.proofs.named_values.value_of.Given as goal

abbrev pub invariant-loop-attribute : goal.invariant-loop-attribute
invariant-loop-attribute l = attribute_value (record { namespace = l.ns; local = l.local }) (map tag_entry l.attributes) ≡ attribute_value (record { namespace = l.ns; local = l.local }) (map tag_entry (drop l.attribute-index l.attributes))
