-- How often an element comes, where it is written.
use Rattle.std.proofs.lemmas.Bool.Decides.{nat_tests}
use Rattle.std.proofs.Common.{◌≡◌, ℕ, ◌==◌, false, [], ◌∷◌, Some, codes, cond, sym, ap, ◌∙◌, arith}
use Rattle.std.specs.Fmt.{decimal}
use Rattle.std.specs.List.{concat}
use Rattle.xsd_model.specs.SchemaText.{max_text, min_text}

pub min_written : (min n : ℕ) → (min ≡ 1 → ⊥) → n ≡ min → concat (codes " minOccurs=\"" ∷ decimal n ∷ codes "\"" ∷ []) ≡ min_text min
min_written min n other same =
    let written = λ (m : ℕ). concat (codes " minOccurs=\"" ∷ decimal m ∷ codes "\"" ∷ []) in
    let not_one : (min == 1) ≡ false = grind (arith, nat_tests, other) in
    ap written same ∙ sym (ap (λ b. cond b [] (written min)) not_one)

pub max_written : (max n : ℕ) → (max ≡ 1 → ⊥) → n ≡ max → concat (codes " maxOccurs=\"" ∷ decimal n ∷ codes "\"" ∷ []) ≡ max_text (Some max)
max_written max n other same =
    let written = λ (m : ℕ). concat (codes " maxOccurs=\"" ∷ decimal m ∷ codes "\"" ∷ []) in
    let not_one : (max == 1) ≡ false = grind (arith, nat_tests, other) in
    ap written same ∙ sym (ap (λ b. cond b [] (written max)) not_one)
