-- Each piece follows those before it.
use Rattle.std.proofs.Common.{◌+◌, ℕ, List, sym, subst, arith, drop}
use Rattle.inst_pool.specs.Pieces.{piece_of}
use Rattle.message_model.specs.Tables.{types_of}
use Rattle.xml_writer.specs.inner.PieceTexts.{innermost_begun, AreWritten}
use Rattle.xml_writer.proofs.Ahead.{IsAhead, piece_writes, piece_more, piece_stops, rest_writes, pieces_put, ahead_first, ends}
use Rattle.xml_writer.proofs.pieces.push_pieces.Goals as goal

pub loop-place-init : goal.loop-place-init
loop-place-init g c = (
  ahead_first g.O.Sink.held g.O.Sink.faults g.O.Sink.room (types_of c.args.model.now) c.args.sink.now (innermost_begun (types_of c.args.model.now) 0) _ c.args.instance.now.region.pieces _
      c.innermost_begun.ensures c.new-buffer.ensures _ _ _ c.put_pieces-place.ensures.put,
  c.put_pieces-place.ensures.within,
)

pub push_past-requires-clause-text : goal.push_past-requires-clause-text
push_past-requires-clause-text g c =
    piece_writes g.O.Sink.held g.O.Sink.faults g.O.Sink.room (types_of c.args.model.now) _ _ (innermost_begun (types_of c.args.model.now) 0) c.loop-place.place.innermost c.args.instance.now.region.pieces c.loop-place.place.at
    c.loop-place.buffer c.loop-place.invariant.0 (piece_of c.in-Some.piece) (sym c.in-Some.ensures) c.requires

pub returns-in-Err : goal.returns-in-Err
returns-in-Err g c =
    piece_stops g.O.Sink.held g.O.Sink.faults g.O.Sink.room (types_of c.args.model.now) _ _ (innermost_begun (types_of c.args.model.now) 0) c.loop-place.place.innermost c.args.instance.now.region.pieces c.loop-place.place.at
    c.loop-place.buffer c.loop-place.invariant.0 (piece_of c.in-Some.piece) (sym c.in-Some.ensures) _ c.push_past.new.buffer c.in-Err.error c.in-Err.ensures

pub put_pieces-place-requires-in-loop-place-clause-text : goal.put_pieces-place-requires-in-loop-place-clause-text
put_pieces-place-requires-in-loop-place-clause-text g c =
    subst (λ i. (rest : List ℕ) × AreWritten (types_of c.args.model.now) i (drop (c.loop-place.place.at + 1) c.args.instance.now.region.pieces) rest) (sym c.innermost_behind-behind.ensures)
    (rest_writes g.O.Sink.held g.O.Sink.faults g.O.Sink.room (types_of c.args.model.now) _ _ (innermost_begun (types_of c.args.model.now) 0) _ c.args.instance.now.region.pieces _ c.push_past.new.buffer
    (piece_more g.O.Sink.held g.O.Sink.faults g.O.Sink.room (types_of c.args.model.now) _ _ (innermost_begun (types_of c.args.model.now) 0) c.loop-place.place.innermost c.args.instance.now.region.pieces c.loop-place.place.at
    c.loop-place.buffer c.loop-place.invariant.0 (piece_of c.in-Some.piece) (sym c.in-Some.ensures) _ c.push_past.new.buffer c.in_default-push_past.ensures) c.requires)

pub loop-place-preserved : goal.loop-place-preserved
loop-place-preserved g c = (
  pieces_put g.O.Sink.held g.O.Sink.faults g.O.Sink.room (types_of c.args.model.now) _ _ (innermost_begun (types_of c.args.model.now) 0) c.innermost_behind-behind.result c.args.instance.now.region.pieces (c.loop-place.place.at + 1) c.push_past.new.buffer
      (subst (λ i. IsAhead g.O.Sink.held g.O.Sink.faults g.O.Sink.room (types_of c.args.model.now) c.args.sink.now c.push_past.new.sink (innermost_begun (types_of c.args.model.now) 0) i c.args.instance.now.region.pieces (c.loop-place.place.at + 1) c.push_past.new.buffer)
      (sym c.innermost_behind-behind.ensures)
      (piece_more g.O.Sink.held g.O.Sink.faults g.O.Sink.room (types_of c.args.model.now) _ _ (innermost_begun (types_of c.args.model.now) 0) c.loop-place.place.innermost c.args.instance.now.region.pieces c.loop-place.place.at
      c.loop-place.buffer c.loop-place.invariant.0 (piece_of c.in-Some.piece) (sym c.in-Some.ensures) _ c.push_past.new.buffer c.in_default-push_past.ensures))
      _ _ _ c.put_pieces-place-in-loop-place.ensures.put,
  c.put_pieces-place-in-loop-place.ensures.within,
)

pub returns : goal.returns
returns g c =
    ends g.O.Sink.held g.O.Sink.faults g.O.Sink.room (types_of c.args.model.now) _ _ (innermost_begun (types_of c.args.model.now) 0) c.loop-place.place.innermost c.args.instance.now.region.pieces c.loop-place.place.at
    c.loop-place.buffer c.loop-place.invariant.0 (omega (arith, c.loop-place-test.false, c.count-count.ensures.count)) _ c.flush.result c.flush.ensures.push
