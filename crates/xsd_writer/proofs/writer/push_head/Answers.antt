use Rattle.std.proofs.Common.{flat_map, subst}
use Rattle.outside.specs.Pushes.{Pushes}
use Rattle.xsd_writer.specs.inner.Segments.{segment_text}
use Rattle.xsd_writer.proofs.writer.push_head.Goals as goal

pub returns : goal.returns
returns g c =
    subst (λ segments. Pushes g.O.Sink.held g.O.Sink.faults g.O.Sink.room c.args.sink.now c.render_all.new.sink c.render_all.result (flat_map segment_text segments))
    c.as_slice.ensures c.render_all.ensures
