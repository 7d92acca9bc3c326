-- The lines that the steps of a simple type begin and end with: all begin before the step with the base, and end behind it.
use Rattle.std.specs.Prelude.{ℕ, ◌+◌, List, [], ◌∷◌, ◌++◌, length, Option, codes}
use Rattle.data_types.specs.declared.kind.Kind.{Kind}
use Rattle.facets.specs.declared.step.Step.{Step}
use Rattle.xsd_model.specs.SchemaText.{base_text, facets_text, line}
use Rattle.xsd_writer.specs.inner.Segments.{step_level}

-- the first line of the step with the base, inside so many others, and the last line of any step
abbrev pub step_start : ℕ → Option Kind → List ℕ → List ℕ
step_start steps base behind = line (step_level steps) (codes "<xs:restriction" ∷ base_text base ∷ behind ∷ [])

abbrev pub step_end : ℕ → List ℕ
step_end steps = line (step_level steps) (codes "</xs:restriction>\n" ∷ [])

-- the end of the type that stands in a later step
abbrev pub inner_end : ℕ → List ℕ
inner_end steps = line (step_level steps + 1) (codes "</xs:simpleType>\n" ∷ [])

-- the lines that a later step begins with, inside so many others
abbrev pub opening_lines : ℕ → List ℕ
opening_lines steps = line (step_level steps) (codes "<xs:restriction>\n" ∷ []) ++ line (step_level steps + 1) (codes "<xs:simpleType>\n" ∷ [])

-- the lines that a later step ends with, inside so many others
abbrev pub closing_lines : ℕ → Step → List ℕ
closing_lines steps step = inner_end steps ++ (facets_text (step_level steps + 1) step ++ step_end steps)

-- those of later steps, from the first of them on
abbrev pub closings : List Step → List ℕ
closings [] = []
closings (step ∷ steps) = closing_lines (length steps) step ++ closings steps
