-- The value of the attribute of a name, one attribute after another.
use Rattle.std.proofs.Common.{◌≡◌, ℕ, ◌+◌, ◌<◌, ◌≤◌, List, [], map, drop, drop-cons, get_or, length, Some, None, cond, refl, add-one}
use Rattle.std.proofs.Math.ListN.{drop_of_length-le}
use Rattle.lexical_core.specs.Tree.{Expanded}
use Rattle.lexical_core.specs.Names.{same_name, attribute_value}
use Rattle.markup.specs.TagAttributes.{tag_entry}
use Rattle.markup.specs.declared.attributes.TagAttribute.{TagAttribute}

pub value_rest : (name : Expanded) (attributes : List TagAttribute) (i : ℕ) (d : TagAttribute) → i < length attributes
    → attribute_value name (map tag_entry (drop i attributes)) ≡ cond (same_name (tag_entry (get_or attributes i d)).name name) (Some (get_or attributes i d).value.now) (attribute_value name (map tag_entry (drop (i + 1) attributes)))
value_rest name attributes i d h = rw (add-one, drop-cons attributes i d) refl

pub value_end : (name : Expanded) (attributes : List TagAttribute) (i : ℕ) → length attributes ≤ i → attribute_value name (map tag_entry (drop i attributes)) ≡ None
value_end name attributes i h = (let e : drop i attributes ≡ [] = drop_of_length-le attributes h in rw e refl)
