use Rattle.std.proofs.Common.{◌≡◌, ◌++◌, drop, ap, sym, ◌∙◌}
use Rattle.outside.proofs.PushedFronts.{to_more, to_stops}
use Rattle.asn1_model.specs.ModuleText.{comment_text}
use Rattle.asn1_writer.proofs.comment.push_comment.Goals as goal

pub returns-in-Err : goal.returns-in-Err
returns-in-Err g c =
    let piece = c.first_piece-piece.result in
    to_stops g.O.Sink.held g.O.Sink.faults g.O.Sink.room _ _ _ _ (comment_text c.loop-rest.rest.now) piece.written.now (comment_text (drop piece.count c.loop-rest.rest.now)) c.in-Err.error
    c.first_piece-piece.ensures.written c.loop-rest.invariant c.in-Err.ensures.push

pub loop-rest-preserved : goal.loop-rest-preserved
loop-rest-preserved g c =
    let piece = c.first_piece-piece.result in
    let whole : comment_text c.loop-rest.rest.now ≡ piece.written.now ++ comment_text c.split_at.result.1.now =
    c.first_piece-piece.ensures.written ∙ ap (λ t. piece.written.now ++ comment_text t) (sym c.split_at.ensures.back) in
    to_more g.O.Sink.held g.O.Sink.faults g.O.Sink.room _ _ _ _ (comment_text c.loop-rest.rest.now) piece.written.now (comment_text c.split_at.result.1.now)
    whole c.loop-rest.invariant c.in_default.ensures.push
