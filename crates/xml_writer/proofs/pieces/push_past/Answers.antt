-- The buffer, and then the piece.
use Rattle.std.proofs.Common.{sym, subst, ◌∙◌}
use Rattle.outside.specs.Gathering.{Gathers}
use Rattle.outside.proofs.Pushing.{fails_push}
use Rattle.outside.proofs.PushedFronts.{gathers_none}
use Rattle.xml_writer.proofs.pieces.push_past.Goals as goal

pub returns-in-Err : goal.returns-in-Err
returns-in-Err g c = λ bytes is.
    fails_push g.O.Sink.held g.O.Sink.faults g.O.Sink.room _ _ c.in-Err.error c.args.buffer.now bytes c.in-Err.ensures.push

pub returns : goal.returns
returns g c = λ bytes is.
    subst (λ t. Gathers g.O.Sink.held g.O.Sink.faults g.O.Sink.room c.args.sink.now c.push_piece.new.sink c.args.buffer.now t c.push_piece.result bytes) (sym (c.put_piece.ensures.kept c.if-put_piece.false ∙ c.flush.ensures.empty))
    (gathers_none g.O.Sink.held g.O.Sink.faults g.O.Sink.room _ _ _ c.push_piece.result c.args.buffer.now bytes c.in_default.ensures.push (c.push_piece.ensures bytes is))
