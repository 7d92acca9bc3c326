use Rattle.std.proofs.Common.{length, ap, sym}
use Rattle.message_model.specs.Tables.{types_of}
use Rattle.der_writer.proofs.EmptySlots.{rest_none}
use Rattle.der_writer.proofs.slots.rest_size.Goals as goal

pub returns-in_default-clause-size : goal.returns-in_default-clause-size
returns-in_default-clause-size c = ap length (rest_none (types_of c.args.model.now c.args.number) c.args.from (sym c.in_default.ensures))
