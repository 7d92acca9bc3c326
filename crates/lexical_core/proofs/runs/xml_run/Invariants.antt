use Rattle.std.proofs.Common.{length}
use Rattle.lexical_core.proofs.XmlRuns.{IsWalked}
use Rattle.lexical_core.proofs.runs.xml_run.Given as goal

-- the bytes so far are whole characters
abbrev pub invariant-loop-size : goal.invariant-loop-size
invariant-loop-size l = IsWalked l.bytes l.count l.characters l.rest

abbrev pub decreases-loop-size : goal.decreases-loop-size
decreases-loop-size l = length l.rest
