use Rattle.std.proofs.Common.{drop}
use Rattle.outside.proofs.Pushing.{done, nothing}
use Rattle.message_model.specs.Tables.{types_of}
use Rattle.der_writer.specs.inner.PieceOctets.{sequence_slots}
use Rattle.der_writer.proofs.EmptySlots.{empty_between}
use Rattle.der_writer.proofs.Pairs.{same_text}
use Rattle.der_writer.proofs.slots.push_slots.Goals as goal

pub returns-then-from-to : goal.returns-then-from-to
returns-then-from-to g c =
    same_text g.O.Sink.held g.O.Sink.faults g.O.Sink.room _ _ (empty_between c.args.from c.args.to (drop c.args.from (sequence_slots (types_of c.args.model.now c.args.number))) c.if-from-to.true) _ _ done (nothing g.O.Sink.held g.O.Sink.faults g.O.Sink.room c.args.sink.now)
