use Rattle.std.proofs.Common.{length}
use Rattle.data_types.specs.inner.Taking.{TakesChars}
use Rattle.data_types.proofs.collapsed_step.CollapsedStep.take_text.Given as goal

-- these characters were taken
abbrev pub invariant-loop-c : goal.invariant-loop-c
invariant-loop-c l = TakesChars l.initial.self l.self l.yielded (length l.yielded)
