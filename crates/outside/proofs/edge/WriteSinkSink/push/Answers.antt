-- The bytes that this write took follow those that were written before it.
use Rattle.outside.proofs.Writing.{goes_on}
use Rattle.outside.proofs.edge.WriteSinkSink.push.Goals as goal

pub loop-rest-preserved : goal.loop-rest-preserved
loop-rest-preserved g c = record {
  faults = c.loop-rest.invariant.faults;
  written = rw c.split_at.ensures.back
      (goes_on _ _ _ _ _ _ c.loop-rest.invariant.written c.in-Ok.ensures.bound c.in-Ok.ensures.bytes);
}
