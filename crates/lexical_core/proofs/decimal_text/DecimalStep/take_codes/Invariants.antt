use Rattle.std.proofs.Common.{◌≡◌, ℕ, List, ◌++◌, length}
use Rattle.lexical_core.specs.DecimalSoFar.{HasRead}
use Rattle.lexical_core.specs.declared.decimal_text.DecimalStep.{DecimalStep}
use Rattle.lexical_core.proofs.decimal_text.DecimalStep.take_codes.Given as goal

-- the codes but for the rest were taken
pub record HasGoneOn (old now : DecimalStep) (codes rest : List ℕ) : Type 0 where
  pub seen : List ℕ
  pub joined : codes ≡ seen ++ rest
  pub read : (text : List ℕ) → HasRead old text → HasRead now (text ++ seen)

abbrev pub invariant-loop-rest : goal.invariant-loop-rest
invariant-loop-rest l = HasGoneOn l.initial.self l.self l.codes l.rest

abbrev pub decreases-loop-rest : goal.decreases-loop-rest
decreases-loop-rest l = length l.rest
