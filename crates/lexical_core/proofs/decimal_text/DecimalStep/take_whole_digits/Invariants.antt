use Rattle.std.proofs.Common.{◌≡◌, ℕ, List, ◌++◌, take}
use Rattle.lexical_core.specs.DecimalSoFar.{HasRead}
use Rattle.lexical_core.specs.declared.decimal_text.Stage.TheVariants.{Whole}
use Rattle.lexical_core.proofs.decimal_text.DecimalStep.take_whole_digits.Given as goal

-- the digits so far were taken
abbrev pub invariant-loop-count : goal.invariant-loop-count
invariant-loop-count l = record {
  stage : l.step.stage ≡ Whole;
  read : (text : List ℕ) → HasRead l.initial.self text → HasRead l.step (text ++ take l.count l.codes);
}
