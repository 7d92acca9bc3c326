use Rattle.std.proofs.Common.{flat_map, subst}
use Rattle.outside.specs.Pushes.{Pushes}
use Rattle.asn1_writer.specs.inner.Segments.{asn_segment_text}
use Rattle.asn1_writer.proofs.shape.push_binary.Goals as goal

pub returns : goal.returns
returns g c =
    subst (λ segments. Pushes g.O.Sink.held g.O.Sink.faults g.O.Sink.room c.args.sink.now c.render_all.new.sink c.render_all.result (flat_map asn_segment_text segments)) c.as_slice.ensures
    c.render_all.ensures
