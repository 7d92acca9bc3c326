-- The buffer comes first.
use Rattle.message_model.specs.Tables.{types_of}
use Rattle.der_writer.specs.declared.write.Place.{Place}
use Rattle.der_writer.specs.inner.Measuring.{octets_at}
use Rattle.der_writer.proofs.Told.{first_told, then_told}
use Rattle.der_writer.proofs.write.push_past.Goals as goal

pub returns-in-Err-clause-pushed : goal.returns-in-Err-clause-pushed
returns-in-Err-clause-pushed g c =
    first_told g.O.Sink.held g.O.Sink.faults g.O.Sink.room {T = Place} _ _ c.in-Err.error c.args.buffer.now (octets_at (types_of c.args.model.now) c.args.instance.now c.args.place.at c.args.place.left) c.in-Err.ensures.push

pub returns-clause-pushed : goal.returns-clause-pushed
returns-clause-pushed g c =
    then_told g.O.Sink.held g.O.Sink.faults g.O.Sink.room {T = Place} _ _ _ c.push_piece.result c.args.buffer.now (octets_at (types_of c.args.model.now) c.args.instance.now c.args.place.at c.args.place.left) c.in_default.ensures.push c.push_piece.ensures.pushed
