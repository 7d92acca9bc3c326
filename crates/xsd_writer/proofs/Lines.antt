-- Lines as they are pushed: the parts of one after the other.
use Rattle.std.proofs.Common.{◌≡◌, ℕ, ◌+◌, ◌*◌, true, List, [], ◌∷◌, ◌++◌, codes, flat_map, replicate, refl, sym, ap, ◌∙◌, append_assoc, append-nil, arith}
use Rattle.std.specs.List.{concat}
use Rattle.data_types.specs.Escaping.{escaped_bytes}
use Rattle.facets.specs.declared.step.Step.{Step}
use Rattle.xsd_model.specs.declared.schema.Part.{Part}
use Rattle.xsd_model.specs.SchemaText.{amount_text, facet_text, facets_text, first_text, has_facets, line, model_text, schema_part_text}
use Rattle.xsd_writer.specs.inner.Segments.{step_level}
use Rattle.xsd_writer.specs.inner.StepLines.{opening_lines, step_end, step_start}

regroup : (a b c d e f : List ℕ) → (a ++ (b ++ (c ++ (d ++ [])))) ++ (e ++ f) ≡ a ++ (b ++ (c ++ (d ++ (e ++ f))))
regroup a b c d e f = simp (append_assoc, append-nil)

-- what stands before the value of a facet
abbrev pub facet_start : ℕ → List ℕ → List ℕ
facet_start level word = line level (codes "<xs:" ∷ word ∷ codes " value=\"" ∷ [])

-- a facet's name, its value, and the end of its line
pub facet_is : (level : ℕ) (word value : List ℕ) → facet_start level word ++ (value ++ codes "\"/>\n") ≡ facet_text level word value
facet_is level word value = regroup (replicate (2 * level) 32) (codes "<xs:") word (codes " value=\"") value (codes "\"/>\n")

-- the two lines that a later step begins with
pub opening_is : (steps : ℕ) → replicate (2 * (step_level steps + 0)) 32 ++ (codes "<xs:restriction>\n" ++ (replicate (2 * (step_level steps + 1)) 32 ++ (codes "<xs:simpleType>\n" ++ []))) ≡ opening_lines steps
opening_is steps =
    let space : ℕ = 32 in
    let second = replicate (2 * (step_level steps + 1)) space ++ codes "<xs:simpleType>\n" in
    let level : step_level steps + 0 ≡ step_level steps = omega arith in
    ap (λ n. replicate (2 * n) space ++ (codes "<xs:restriction>\n" ++ second)) level ∙ sym (append_assoc (replicate (2 * step_level steps) space) (codes "<xs:restriction>\n") second)

-- a content model that has parts
abbrev pub model_start : List ℕ → List ℕ
model_start word = line 2 (codes "<xs:" ∷ word ∷ codes ">\n" ∷ [])

abbrev pub model_end : List ℕ → List ℕ
model_end word = line 2 (codes "</xs:" ∷ word ∷ codes ">\n" ∷ [])

pub model_some : (word : List ℕ) (parts : List Part) → (parts ≡ [] → ⊥) → model_start word ++ (flat_map schema_part_text parts ++ model_end word) ≡ model_text word parts
model_some word [] some = absurd (some refl)
model_some word (part ∷ parts) some = refl

five_lines : (a b c d e f g h i j k l m n : List ℕ)
    → a ++ (b ++ (c ++ (d ++ (e ++ (f ++ (g ++ (h ++ (i ++ (j ++ (k ++ (l ++ (m ++ (n ++ [])))))))))))))
    ≡ (a ++ (b ++ [])) ++ ((c ++ (d ++ (e ++ (f ++ [])))) ++ ((g ++ (h ++ (i ++ (j ++ [])))) ++ ((k ++ (l ++ [])) ++ (m ++ (n ++ [])))))
five_lines a b c d e f g h i j k l m n = simp (append_assoc, append-nil)

-- the five lines of an amount
pub amount_is : (base code : List ℕ) → concat (
    replicate 4 32 ∷ codes "<xs:simpleContent>\n"
    ∷ replicate 6 32 ∷ codes "<xs:extension base=\"" ∷ escaped_bytes true base ∷ codes "\">\n"
    ∷ replicate 8 32 ∷ codes "<xs:attribute name=\"Ccy\" type=\"" ∷ escaped_bytes true code ∷ codes "\" use=\"required\"/>\n"
    ∷ replicate 6 32 ∷ codes "</xs:extension>\n"
    ∷ replicate 4 32 ∷ codes "</xs:simpleContent>\n"
    ∷ []) ≡ amount_text base code
amount_is base code =
    let space : ℕ = 32 in
    five_lines (replicate 4 space) (codes "<xs:simpleContent>\n")
    (replicate 6 space) (codes "<xs:extension base=\"") (escaped_bytes true base) (codes "\">\n")
    (replicate 8 space) (codes "<xs:attribute name=\"Ccy\" type=\"") (escaped_bytes true code) (codes "\" use=\"required\"/>\n")
    (replicate 6 space) (codes "</xs:extension>\n")
    (replicate 4 space) (codes "</xs:simpleContent>\n")

-- the step with the base, where it has facets
pub first_some : (steps : ℕ) (step : Step) → has_facets step ≡ true
    → step_start steps step.base (codes ">\n") ++ (facets_text (step_level steps + 1) step ++ step_end steps) ≡ first_text step (step_level steps)
first_some steps step some = rw some refl
