use Rattle.std.proofs.Common.{ℕ, List, flat_map, subst}
use Rattle.outside.specs.Pushes.{Pushes}
use Rattle.xsd_writer.proofs.Lines.{opening_is}
use Rattle.xsd_writer.specs.inner.Segments.{segment_text}
use Rattle.xsd_writer.proofs.step_lines.push_opening.Goals as goal

pub returns : goal.returns
returns g c =
    let pushes = λ (t : List ℕ). Pushes g.O.Sink.held g.O.Sink.faults g.O.Sink.room c.args.sink.now c.render_all.new.sink c.render_all.result t in
    subst pushes (opening_is c.args.steps) (subst (λ segments. pushes (flat_map segment_text segments)) c.as_slice.ensures c.render_all.ensures)
