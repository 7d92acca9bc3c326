-- Each piece goes behind those before it.
use Rattle.std.proofs.Common.{◌+◌, sym, subst, arith}
use Rattle.inst_pool.specs.Pieces.{piece_of}
use Rattle.message_model.specs.Tables.{types_of}
use Rattle.xml_writer.specs.inner.PieceTexts.{HasPut}
use Rattle.xml_writer.proofs.Putting.{put_kept, next_writes, put_more}
use Rattle.xml_writer.proofs.pieces.put_pieces.Goals as goal

pub put_at-requires-clause-text : goal.put_at-requires-clause-text
put_at-requires-clause-text c =
    next_writes (types_of c.args.model.now) c.args.instance.now.region.pieces c.args.place.innermost c.args.place.at c.args.buffer.now c.loop-next.next.innermost c.loop-next.next.at
    c.loop-next.buffer c.loop-next.invariant.0 (piece_of c.in-Some-piece.piece) (sym c.in-Some-piece.ensures) c.requires.text

pub loop-next-preserved : goal.loop-next-preserved
loop-next-preserved c =
    let begun = c.loop-next.invariant.1 in
    let test = c.loop-next-test.true in
    let count = c.count-count.ensures.count in
    let kept =
    put_kept (types_of c.args.model.now) c.args.instance.now.region.pieces c.args.place.innermost c.args.place.at c.args.buffer.now c.loop-next.next.innermost c.loop-next.next.at
    c.loop-next.buffer c.loop-next.invariant.0 c.put_element.new.buffer c.in_default.ensures.kept in (
      subst (λ i. HasPut (types_of c.args.model.now) c.args.instance.now.region.pieces c.args.place.innermost c.args.place.at c.args.buffer.now i (c.loop-next.next.at + 1) c.put_at.new.buffer)
          (sym c.innermost_behind-behind.ensures)
          (put_more (types_of c.args.model.now) c.args.instance.now.region.pieces c.args.place.innermost c.args.place.at c.args.buffer.now c.loop-next.next.innermost c.loop-next.next.at
          c.put_element.new.buffer kept (piece_of c.in-Some-piece.piece) (sym c.in-Some-piece.ensures) c.put_at.new.buffer (c.put_at.ensures.put c.if-not-put_at.false)),
      omega (arith, begun),
      omega (arith, test, count),
    )
