-- The text of steps is what they begin with, the step with the base, and what they end with.
use Rattle.std.proofs.Common.{◌≡◌, ℕ, suc, ◌+◌, List, [], ◌∷◌, ◌++◌, length, codes, sym, ap, ◌∙◌, append_assoc, append-nil, arith}
use Rattle.facets.specs.declared.step.Step.{Step}
use Rattle.xsd_model.specs.SchemaText.{facets_text, first_text, later_text, line, steps_from, steps_text}
use Rattle.xsd_writer.specs.inner.NumberedTexts.{texts_below}
use Rattle.xsd_writer.specs.inner.Segments.{step_level}
use Rattle.xsd_writer.specs.inner.StepLines.{closings, opening_lines}

regroup : (o a b i c f d k : List ℕ) → o ++ ((a ++ (b ++ (i ++ (c ++ (f ++ d))))) ++ k) ≡ (o ++ (a ++ b)) ++ (i ++ ((c ++ (f ++ d)) ++ k))
regroup o a b i c f d k = simp append_assoc

-- the step inside, and the lines of the later steps round it
pub nested : (inner : ℕ → List ℕ) (later : List Step) → steps_from inner later 2 ≡ texts_below opening_lines (length later) ++ (inner (step_level (length later)) ++ closings later)
nested inner [] = sym (append-nil (inner 2))
nested inner (step ∷ later) =
    let n = length later in
    let deeper : step_level n + 2 ≡ step_level (suc n) = omega arith in
    nested (later_text inner step) later
    ∙ (regroup (texts_below opening_lines n) (line (step_level n) (codes "<xs:restriction>\n" ∷ [])) (line (step_level n + 1) (codes "<xs:simpleType>\n" ∷ [])) (inner (step_level n + 2))
    (line (step_level n + 1) (codes "</xs:simpleType>\n" ∷ [])) (facets_text (step_level n + 1) step) (line (step_level n) (codes "</xs:restriction>\n" ∷ [])) (closings later)
    ∙ ap (λ level. texts_below opening_lines (suc n) ++ (inner level ++ closings (step ∷ later))) deeper)

-- the text of steps of which there is one
pub steps_are : (steps : List Step) (first : Step) (later : List Step) → steps ≡ first ∷ later
    → texts_below opening_lines (length later) ++ (first_text first (step_level (length later)) ++ closings later) ≡ steps_text steps
steps_are steps first later is = sym (nested (first_text first) later) ∙ ap steps_text (sym is)
