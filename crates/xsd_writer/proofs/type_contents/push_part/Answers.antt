use Rattle.std.proofs.Common.{ap, ap₂, flat_map, subst, ◌∙◌}
use Rattle.outside.specs.Pushes.{Pushes}
use Rattle.xsd_model.specs.SchemaText.{schema_part_text}
use Rattle.xsd_writer.specs.inner.Segments.{segment_text}
use Rattle.xsd_writer.proofs.type_contents.push_part.Goals as goal

pub returns : goal.returns
returns g c =
    let part = c.args.part.now in
    subst (λ t. Pushes g.O.Sink.held g.O.Sink.faults g.O.Sink.room c.args.sink.now c.render_all.new.sink c.render_all.result t)
    (ap (flat_map segment_text) c.as_slice.ensures ∙ ap₂ (λ tag target. schema_part_text (record { tag = tag; target = target; min = part.min; max = part.max })) c.bytes.ensures c.bytes-2.ensures)
    c.render_all.ensures
