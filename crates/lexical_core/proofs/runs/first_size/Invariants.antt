use Rattle.lexical_core.proofs.XmlRuns.{IsBegun}
use Rattle.lexical_core.proofs.runs.first_size.Given as goal

-- the bytes so far are a front of one character
abbrev pub invariant-loop-at : goal.invariant-loop-at
invariant-loop-at l = IsBegun l.piece l.at l.step
