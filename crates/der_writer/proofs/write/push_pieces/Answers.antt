-- The buffer and the piece at the place go to the sink, and what follows into the buffer.
use Rattle.std.proofs.Common.{◌<◌, ◌≤◌, length, arith}
use Rattle.message_model.specs.Tables.{types_of}
use Rattle.der_writer.specs.inner.PieceOctets.{Begun, document_edge, pieces_octets}
use Rattle.der_writer.proofs.Putting.{ahead_past, ahead_put, ends_behind, stops_past}
use Rattle.der_writer.proofs.write.push_pieces.Goals as goal

pub returns-in-Err : goal.returns-in-Err
returns-in-Err g c =
    let types = types_of c.args.model.now in
    let held = c.args.instance.now in
    let count = c.count-count.ensures.count in
    let some = c.loop-place-test.true in
    let within : c.loop-place.place.at < length held.region.pieces = omega (arith, count, some) in
    let whole = pieces_octets types (Begun document_edge) held.region.pieces held.lens held.groups c.args.kept in
    stops_past types held g.O.Sink.held g.O.Sink.faults g.O.Sink.room whole _ _ _ c.loop-place.place c.loop-place.buffer c.in-Err.error within c.loop-place.invariant.pushed c.in-Err.ensures.pushed

pub loop-place-preserved : goal.loop-place-preserved
loop-place-preserved g c =
    let types = types_of c.args.model.now in
    let held = c.args.instance.now in
    let count = c.count-count.ensures.count in
    let some = c.loop-place-test.true in
    let within : c.loop-place.place.at < length held.region.pieces = omega (arith, count, some) in
    let whole = pieces_octets types (Begun document_edge) held.region.pieces held.lens held.groups c.args.kept in
    record {
      pushed = ahead_put types held g.O.Sink.held g.O.Sink.faults g.O.Sink.room whole _ _ c.in-Ok.behind c.put_pieces-place-in-loop-place.result c.push_past.new.buffer c.put_pieces-place-in-loop-place.new.buffer
          (ahead_past types held g.O.Sink.held g.O.Sink.faults g.O.Sink.room whole _ _ _ c.loop-place.place c.in-Ok.behind c.loop-place.buffer c.push_past.new.buffer within c.loop-place.invariant.pushed
          c.in-Ok.ensures.pushed c.in-Ok.ensures.behind c.in-Ok.ensures.empty) c.put_pieces-place-in-loop-place.ensures;
      place = c.put_pieces-place-in-loop-place.ensures.place;
    }

pub returns : goal.returns
returns g c =
    let types = types_of c.args.model.now in
    let held = c.args.instance.now in
    let count = c.count-count.ensures.count in
    let past = c.loop-place-test.false in
    let end : length held.region.pieces ≤ c.loop-place.place.at = omega (arith, count, past) in
    let whole = pieces_octets types (Begun document_edge) held.region.pieces held.lens held.groups c.args.kept in
    ends_behind types held g.O.Sink.held g.O.Sink.faults g.O.Sink.room whole _ _ _ c.loop-place.place c.loop-place.buffer c.push_rest.result end c.loop-place.invariant.place c.loop-place.invariant.pushed c.push_rest.ensures
