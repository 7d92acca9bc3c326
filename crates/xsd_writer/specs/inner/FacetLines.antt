-- The lines that a step's facets are.
use Rattle.std.specs.Prelude.{ℕ, List, codes, flat_map}
use Rattle.xsd_model.specs.SchemaText.{bound_facet, number_facet, value_facet}
use Rattle.xsd_writer.specs.declared.facet_lines.Facet.{Facet}
use Rattle.xsd_writer.specs.declared.facet_lines.Facet.TheVariants as facet

-- the lines of a facet at a level
abbrev pub facet_lines : ℕ → Facet → List ℕ
facet_lines level (facet.Digits word n) = number_facet level word.now n
facet_lines level (facet.Length word n) = number_facet level word.now n
facet_lines level (facet.Bound strict word bound) = bound_facet level strict.now word.now bound
facet_lines level (facet.Codes values) = flat_map (value_facet level (codes "enumeration")) values.now
facet_lines level (facet.Patterns values) = flat_map (value_facet level (codes "pattern")) values.now
