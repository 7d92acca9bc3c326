-- The rest is what was not pushed so far, and no fault was counted.
use Rattle.std.proofs.Common.{length}
use Rattle.base64.specs.Engines.{standard}
use Rattle.base64.specs.GeneralPurpose.{encode_of}
use Rattle.data_types.proofs.PushedTexts.{HasPushed}
use Rattle.data_types.proofs.octet_writer.push_octets.Given as goal

abbrev pub invariant-loop-rest : goal.invariant-loop-rest
invariant-loop-rest g l = HasPushed (g.O.Sink.held l.fn.sink) (g.O.Sink.held l.sink) (g.O.Sink.faults l.fn.sink) (g.O.Sink.faults l.sink)
    (g.O.Sink.room l.fn.sink) (g.O.Sink.room l.sink) (encode_of standard l.fn.octets) (encode_of standard l.rest)

abbrev pub decreases-loop-rest : goal.decreases-loop-rest
decreases-loop-rest g l = length l.rest
