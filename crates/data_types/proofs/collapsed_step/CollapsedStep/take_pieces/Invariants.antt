use Rattle.std.proofs.Common.{ℕ, ◌<◌, ◌≡◌, List, ◌++◌, length}
use Rattle.std.specs.List.{AllByRecursion}
use Rattle.data_types.specs.inner.Taking.{TakesChars}
use Rattle.data_types.specs.declared.collapsed_step.CollapsedStep.{CollapsedStep}
use Rattle.data_types.proofs.collapsed_step.CollapsedStep.take_pieces.Given as goal

-- the codes but for the rest were taken
pub record HasGoneOn (old now : CollapsedStep) (codes rest : List ℕ) : Type 0 where
  pub seen : List ℕ
  pub joined : codes ≡ seen ++ rest
  pub ascii : AllByRecursion (λ c. c < 128) rest
  pub takes : TakesChars old now seen (length seen)

abbrev pub invariant-loop-rest : goal.invariant-loop-rest
invariant-loop-rest l = HasGoneOn l.initial.self l.self l.codes l.rest

abbrev pub decreases-loop-rest : goal.decreases-loop-rest
decreases-loop-rest l = length l.rest
