-- The rest is what was not pushed so far, and no fault was counted.
use Rattle.std.proofs.Common.{length}
use Rattle.data_types.specs.Escaping.{escaped_bytes}
use Rattle.data_types.proofs.PushedTexts.{HasPushed}
use Rattle.data_types.proofs.text_writer.push_escaped.Given as goal

abbrev pub invariant-loop-rest : goal.invariant-loop-rest
invariant-loop-rest g l = HasPushed (g.O.Sink.held l.fn.sink) (g.O.Sink.held l.sink) (g.O.Sink.faults l.fn.sink) (g.O.Sink.faults l.sink)
    (g.O.Sink.room l.fn.sink) (g.O.Sink.room l.sink) (escaped_bytes l.fn.attribute l.fn.text) (escaped_bytes l.fn.attribute l.rest)

abbrev pub decreases-loop-rest : goal.decreases-loop-rest
decreases-loop-rest g l = length l.rest
