-- Each line follows those before it.
use Rattle.std.proofs.Common.{arith, ap}
use Rattle.asn1_model.specs.ModuleText.{code_line}
use Rattle.asn1_writer.proofs.NumberedLines.{line_text, line_more, line_stops}
use Rattle.asn1_writer.proofs.enumeration.push_codes.Goals as goal

pub returns-in-Err : goal.returns-in-Err
returns-in-Err g c =
    line_stops g.O.Sink.held g.O.Sink.faults g.O.Sink.room code_line c.args.names.now c.loop-at.at c.index-names-at.result _ _ _ (line_text code_line c.loop-at.at c.index-names-at.result) c.in-Err.error
    (omega (arith, c.loop-at-test.true)) (ap (line_text code_line c.loop-at.at) c.index-names-at.is) c.loop-at.invariant c.in-Err.ensures

pub loop-at-preserved : goal.loop-at-preserved
loop-at-preserved g c =
    line_more g.O.Sink.held g.O.Sink.faults g.O.Sink.room code_line c.args.names.now c.loop-at.at c.index-names-at.result _ _ _ (line_text code_line c.loop-at.at c.index-names-at.result)
    (omega (arith, c.loop-at-test.true)) (ap (line_text code_line c.loop-at.at) c.index-names-at.is) c.loop-at.invariant c.in_default.ensures
