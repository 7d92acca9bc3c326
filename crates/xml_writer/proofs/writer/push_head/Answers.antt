use Rattle.std.proofs.Common.{◌≡◌, ◌++◌, ap, ap₂, subst, ◌∙◌}
use Rattle.outside.specs.Pushes.{Pushes}
use Rattle.message_model.specs.Tables.{types_of, namespace_front}
use Rattle.xml_writer.specs.inner.PieceTexts.{is_amount, tag_end, root_text}
use Rattle.xml_writer.proofs.writer.push_head.Goals as goal

pub returns : goal.returns
returns g c =
    let id : c.bytes.result.now ≡ c.args.model.now.id = c.bytes.ensures.value ∙ c.id.ensures in
    let end : c.tag_end-end.result.now ≡ tag_end (is_amount (types_of c.args.model.now 0)) = c.tag_end-end.ensures ∙ ap tag_end c.is_amount.ensures in
    subst (λ t. Pushes g.O.Sink.held g.O.Sink.faults g.O.Sink.room c.args.sink.now c.push_root.new.sink c.push_root.result t)
    (ap₂ (λ i e. root_text (namespace_front ++ i) e) id end) c.push_root.ensures
