use Rattle.std.proofs.Common.{sym, arith}
use Rattle.outside.proofs.Pushing.{done, nothing}
use Rattle.message_model.specs.Tables.{types_of}
use Rattle.der_writer.proofs.EmptySlots.{rest_none, rest_past}
use Rattle.der_writer.proofs.Pairs.{same_text}
use Rattle.der_writer.proofs.slots.push_behind.Goals as goal

pub returns-then-from : goal.returns-then-from
returns-then-from g c =
    let short = (c.type_count-count.ensures.sound c.args.number).short in
    same_text g.O.Sink.held g.O.Sink.faults g.O.Sink.room _ _ (rest_past (types_of c.args.model.now c.args.number) c.args.from (omega (arith, short, c.if-from.true))) _ _ done (nothing g.O.Sink.held g.O.Sink.faults g.O.Sink.room c.args.sink.now)

pub returns-in_default : goal.returns-in_default
returns-in_default g c =
    same_text g.O.Sink.held g.O.Sink.faults g.O.Sink.room _ _ (rest_none (types_of c.args.model.now c.args.number) c.args.from (sym c.in_default.ensures)) _ _ done (nothing g.O.Sink.held g.O.Sink.faults g.O.Sink.room c.args.sink.now)
