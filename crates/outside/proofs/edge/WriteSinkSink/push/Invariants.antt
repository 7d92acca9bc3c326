-- The rest is what was not written so far, and no fault was counted.
use Rattle.std.proofs.Common.{◌≡◌, length}
use Rattle.outside.proofs.Writing.{HasWritten}
use Rattle.outside.proofs.edge.WriteSinkSink.push.Given as goal

abbrev pub invariant-loop-rest : goal.invariant-loop-rest
invariant-loop-rest g l = record {
  faults : l.self-inside.faults ≡ l.fn.self.faults;
  written : HasWritten (g.W.Write.contents l.fn.self.writer) (g.W.Write.contents l.self-inside.inner) l.fn.bytes l.rest;
}

abbrev pub decreases-loop-rest : goal.decreases-loop-rest
decreases-loop-rest g l = length l.rest
