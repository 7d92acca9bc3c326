-- Lanes that say which bytes do not go on with a comment or an instruction.
use Rattle.std.proofs.Common.{◌≡◌, ℕ, true, not, cond, eqb, refl}
use Rattle.std.specs.Prelude.{bit_or}
use Rattle.std.proofs.lemmas.Bool.{agree_below}
use Rattle.markup.specs.inner.Inside.{is_passed, passed_end}
use Rattle.markup.specs.declared.classes.Passed.{Passed}
use Rattle.markup.specs.declared.classes.Passed.TheVariants.{Comment, Instruction}
use lib.Lanes.{top}

-- A byte that goes on with neither, or the one that begins the end; 256 is no byte.
abbrev lane : ℕ → ℕ → ℕ
lane end byte = bit_or (cond (is_passed 256 byte) 0 255) (cond (eqb byte end) 255 0)

pub lanes_agree : (p : Passed) (end : ℕ) → end ≡ passed_end p → agree_below (λ byte. top 7 (lane end byte)) (λ byte. not (is_passed (passed_end p) byte)) 256 ≡ true
lanes_agree Comment end is = rw is refl
lanes_agree Instruction end is = rw is refl
