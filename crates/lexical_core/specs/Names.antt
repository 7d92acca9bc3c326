-- Expanded names compared, the values of attributes by them, and the names that are bound by definition (Namespaces in XML 1.0 §2.1, §3).
use Rattle.std.specs.Prelude.{ℕ, Bool, List, [], ◌∷◌, ◌&&◌, codes, Option, Some, None, if◌then◌else◌}
use Rattle.std.specs.Str.{bytes_eq}
use Rattle.std.specs.Ordering.{ordering_then, nat_cmp}
use Rattle.std.specs.Cmp.Lexicographic.{slice_cmp}
use Rattle.std.specs.declared.cmp.Ordering.{Ordering}
use Rattle.lexical_core.specs.Tree.{Expanded, Entry}

-- the namespace that the prefix `xml` is bound to (Namespaces §3)
abbrev pub xml_namespace : List ℕ
xml_namespace = codes "http://www.w3.org/XML/1998/namespace"

-- the name and prefix of declarations (Namespaces §3)
abbrev pub xmlns : List ℕ
xmlns = codes "xmlns"

-- the namespace that the prefix `xmlns` stands for (Namespaces §3)
abbrev pub xmlns_namespace : List ℕ
xmlns_namespace = codes "http://www.w3.org/2000/xmlns/"

-- whether two expanded names are the same (Namespaces §2.1)
abbrev pub same_name : Expanded → Expanded → Bool
same_name a b = bytes_eq a.namespace b.namespace && bytes_eq a.local b.local

-- the value of the attribute of this name
abbrev pub attribute_value : Expanded → List Entry → Option (List ℕ)
attribute_value name [] = None
attribute_value name (a ∷ more) = if same_name a.name name then Some a.value else attribute_value name more

-- expanded names in order: by namespace and then by local name, both by bytes
abbrev pub name_cmp : Expanded → Expanded → Ordering
name_cmp a b = ordering_then (slice_cmp nat_cmp a.namespace b.namespace) (slice_cmp nat_cmp a.local b.local)
