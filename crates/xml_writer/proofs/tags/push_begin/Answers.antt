-- What stands before the tag, the tag and what stands behind it.
use Rattle.std.proofs.Common.{codes, refl, subst}
use Rattle.outside.specs.Pushes.{Pushes}
use Rattle.outside.proofs.Pushing.{done, stopped}
use Rattle.xml_writer.specs.inner.PieceTexts.{tag_end}
use Rattle.xml_writer.proofs.Blocks.{first_stops, second_stops, third_ends}
use Rattle.xml_writer.proofs.tags.push_begin.Goals as goal

pub returns-in-Err : goal.returns-in-Err
returns-in-Err g c = λ s is.
    first_stops g.O.Sink.held g.O.Sink.faults g.O.Sink.room (codes "<") s.tag (tag_end c.args.unended) _ refl _ _ c.in-Err.error c.in-Err.ensures.push

pub returns-in-Err-push_bytes : goal.returns-in-Err-push_bytes
returns-in-Err-push_bytes g c = λ s is.
    second_stops g.O.Sink.held g.O.Sink.faults g.O.Sink.room (codes "<") s.tag (tag_end c.args.unended) _ refl _ _ _ c.in-Err-push_bytes.error c.in_default.ensures.push
    (subst (λ t. Pushes g.O.Sink.held g.O.Sink.faults g.O.Sink.room c.push_bytes.new.sink c.push_bytes-2.new.sink (stopped c.in-Err-push_bytes.error) t) (c.tag_of.ensures s is) c.in-Err-push_bytes.ensures.push)

pub returns : goal.returns
returns g c = λ s is.
    third_ends g.O.Sink.held g.O.Sink.faults g.O.Sink.room (codes "<") s.tag (tag_end c.args.unended) _ refl _ _ _ _ c.push_tag_end.result c.in_default.ensures.push
    (subst (λ t. Pushes g.O.Sink.held g.O.Sink.faults g.O.Sink.room c.push_bytes.new.sink c.push_bytes-2.new.sink done t) (c.tag_of.ensures s is) c.in_default-push_bytes.ensures.push)
    c.push_tag_end.ensures
