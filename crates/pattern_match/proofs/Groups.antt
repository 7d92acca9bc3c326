-- The groups that are begun, and what the passes do at the end of a branch and of a group.
use Rattle.std.proofs.Common.{◌≡◌, ℕ, Bool, true, false, ◌||◌, List, [], ◌∷◌, refl, ap₂}
use Rattle.pattern_match.specs.Marking.{frame, innermost_group, around, with_group, first_pass, second_pass}
use Rattle.pattern_match.specs.declared.instruction.Instruction.{Instruction}
use Rattle.pattern_match.specs.declared.instruction.Instruction.TheVariants.{Bar, Close}
use Rattle.pattern_match.specs.declared.instruction.Frame.{Frame}

pub innermost_with : (entered left : Bool) (frames : List Frame) → innermost_group (with_group (frame entered left) frames) ≡ frame entered left
innermost_with true left [] = refl
innermost_with false true [] = refl
innermost_with false false [] = refl
innermost_with entered left (g ∷ frames) = refl

pub around_with : (entered left : Bool) (frames : List Frame) → around (with_group (frame entered left) frames) ≡ frames
around_with true left [] = refl
around_with false true [] = refl
around_with false false [] = refl
around_with entered left (g ∷ frames) = refl

-- the first pass at a bar, and at the end of a group
pub first_bar : (admits : ℕ → Bool) (code : List Instruction) (mark : Bool) (marks : List Bool) (now entered left : Bool) (frames : List Frame)
    → first_pass admits (Bar ∷ code) (mark ∷ marks) now (with_group (frame entered left) frames)
    ≡ mark ∷ first_pass admits code marks entered (with_group (frame entered (left || now)) frames)
first_bar admits code mark marks now entered left frames =
    ap₂ (λ f fs. mark ∷ first_pass admits code marks f.entered (with_group (frame f.entered (f.left || now)) fs)) (innermost_with entered left frames) (around_with entered left frames)

pub first_close : (admits : ℕ → Bool) (code : List Instruction) (mark : Bool) (marks : List Bool) (now entered left : Bool) (frames : List Frame)
    → first_pass admits (Close ∷ code) (mark ∷ marks) now (with_group (frame entered left) frames)
    ≡ (left || now) ∷ first_pass admits code marks (left || now) frames
first_close admits code mark marks now entered left frames =
    ap₂ (λ f fs. (f.left || now) ∷ first_pass admits code marks (f.left || now) fs) (innermost_with entered left frames) (around_with entered left frames)

-- the second pass there
pub second_bar : (code : List Instruction) (hit : Bool) (hits : List Bool) (now entered left : Bool) (frames : List Frame)
    → second_pass (Bar ∷ code) (hit ∷ hits) now (with_group (frame entered left) frames)
    ≡ hit ∷ second_pass code hits entered (with_group (frame entered (left || now)) frames)
second_bar code hit hits now entered left frames =
    ap₂ (λ f fs. hit ∷ second_pass code hits f.entered (with_group (frame f.entered (f.left || now)) fs)) (innermost_with entered left frames) (around_with entered left frames)

pub second_close : (code : List Instruction) (hit : Bool) (hits : List Bool) (now entered left : Bool) (frames : List Frame)
    → second_pass (Close ∷ code) (hit ∷ hits) now (with_group (frame entered left) frames) ≡ false ∷ second_pass code hits (left || now) frames
second_close code hit hits now entered left frames =
    ap₂ (λ f fs. false ∷ second_pass code hits (f.left || now) fs) (innermost_with entered left frames) (around_with entered left frames)
