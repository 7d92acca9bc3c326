-- The spaces of a level, pushed so many at a time.
use Rattle.std.proofs.Common.{◌≡◌, ℕ, zero, suc, ◌+◌, ◌*◌, ◌++◌, replicate, ap, ◌∙◌, arith}
use Rattle.std.proofs.lemmas.List.{replicate-append-replicate}
use Rattle.xsd_writer.specs.inner.NumberedTexts.{texts_below}
use Rattle.xsd_writer.specs.inner.Segments.{step_level}

-- so many spaces, so many times
pub spaces_times : (k n : ℕ) → texts_below (λ _. replicate k 32) n ≡ replicate (k * n) 32
spaces_times k zero = (let s : ℕ = 32 in let none : 0 ≡ k * 0 = omega arith in ap (λ m. replicate m s) none)
spaces_times k (suc n) =
    let s : ℕ = 32 in
    let more : k * n + k ≡ k * suc n = omega arith in
    ap (λ t. t ++ replicate k s) (spaces_times k n) ∙ (replicate-append-replicate (k * n) k s ∙ ap (λ m. replicate m s) more)

-- a level inside so many steps: four spaces for each of them, and then two for each further level
pub spaces_inside : (steps more : ℕ) → texts_below (λ _. replicate 4 32) steps ++ texts_below (λ _. replicate 2 32) (more + 2) ≡ replicate (2 * (step_level steps + more)) 32
spaces_inside steps more =
    let s : ℕ = 32 in
    let all : 4 * steps + 2 * (more + 2) ≡ 2 * (step_level steps + more) = omega arith in
    ap (λ t. t ++ texts_below (λ _. replicate 2 s) (more + 2)) (spaces_times 4 steps)
    ∙ (ap (λ t. replicate (4 * steps) s ++ t) (spaces_times 2 (more + 2)) ∙ (replicate-append-replicate (4 * steps) (2 * (more + 2)) s ∙ ap (λ m. replicate m s) all))
