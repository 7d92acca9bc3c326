-- What stands before the value, the value, and the end of the line.
use Rattle.std.proofs.Common.{◌+◌, codes}
use Rattle.xsd_writer.proofs.Blocks.{first_stops, second_stops, third_ends}
use Rattle.xsd_writer.proofs.Lines.{facet_is, facet_start}
use Rattle.xsd_writer.specs.inner.Segments.{segment_text, step_level}
use Rattle.xsd_writer.proofs.facet_lines.push_line.Goals as goal

pub returns-in-Err : goal.returns-in-Err
returns-in-Err g c =
    first_stops g.O.Sink.held g.O.Sink.faults g.O.Sink.room (facet_start (step_level c.args.steps + 1) c.args.word.now) (segment_text c.args.value.now) (codes "\"/>\n") _
    (facet_is (step_level c.args.steps + 1) c.args.word.now (segment_text c.args.value.now)) _ _ c.in-Err.error c.in-Err.ensures

pub returns-in-Err-render : goal.returns-in-Err-render
returns-in-Err-render g c =
    second_stops g.O.Sink.held g.O.Sink.faults g.O.Sink.room (facet_start (step_level c.args.steps + 1) c.args.word.now) (segment_text c.args.value.now) (codes "\"/>\n") _
    (facet_is (step_level c.args.steps + 1) c.args.word.now (segment_text c.args.value.now)) _ _ _ c.in-Err-render.error c.in_default.ensures c.in-Err-render.ensures

pub returns : goal.returns
returns g c =
    third_ends g.O.Sink.held g.O.Sink.faults g.O.Sink.room (facet_start (step_level c.args.steps + 1) c.args.word.now) (segment_text c.args.value.now) (codes "\"/>\n") _
    (facet_is (step_level c.args.steps + 1) c.args.word.now (segment_text c.args.value.now)) _ _ _ _ c.push_bytes.result c.in_default.ensures c.in_default-render.ensures c.push_bytes.ensures.push
