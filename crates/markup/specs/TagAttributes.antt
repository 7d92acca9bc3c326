-- The attributes of a start tag that a reader takes whole.
use Rattle.lexical_core.specs.Tree.{Entry}
use Rattle.markup.specs.declared.attributes.TagAttribute.{TagAttribute}

-- the attribute with its expanded name (Namespaces in XML 1.0 §6.2)
abbrev pub tag_entry : TagAttribute → Entry
tag_entry a = record { name = record { namespace = a.ns; local = a.name.now }; value = a.value.now }
