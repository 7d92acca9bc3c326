use Rattle.std.proofs.Common.{length, drop, ap}
use Rattle.message_model.specs.Tables.{types_of}
use Rattle.der_writer.specs.inner.PieceOctets.{sequence_slots}
use Rattle.der_writer.proofs.EmptySlots.{empty_between}
use Rattle.der_writer.proofs.slots.slots_size.Goals as goal

pub returns-then-from-to-clause-size : goal.returns-then-from-to-clause-size
returns-then-from-to-clause-size c = ap length (empty_between c.args.from c.args.to (drop c.args.from (sequence_slots (types_of c.args.model.now c.args.number))) c.if-from-to.true)
