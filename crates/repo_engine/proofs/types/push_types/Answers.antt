use Rattle.std.proofs.Common.{◌<◌, arith, length}
use Rattle.repo_engine.proofs.TypeLines.{type_at, line_more, line_stops}
use Rattle.repo_engine.proofs.types.push_types.Goals as goal

pub loop-number-preserved : goal.loop-number-preserved
loop-number-preserved g c =
    let types = c.args.model.now.types in
    let fits : c.loop-number.number < length types = omega (arith, c.loop-number-test.true, c.type_count-number-end.ensures.count) in
    let at = type_at types c.loop-number.number fits in
    line_more g.O.Sink.held g.O.Sink.faults g.O.Sink.room types c.loop-number.number _ _ _ at.0 at.1 c.loop-number.invariant (c.in_default.ensures at.0 at.1)

pub returns-in-Err : goal.returns-in-Err
returns-in-Err g c =
    let types = c.args.model.now.types in
    let fits : c.loop-number.number < length types = omega (arith, c.loop-number-test.true, c.type_count-number-end.ensures.count) in
    let at = type_at types c.loop-number.number fits in
    line_stops g.O.Sink.held g.O.Sink.faults g.O.Sink.room types c.loop-number.number _ _ _ at.0 c.in-Err.error at.1 c.loop-number.invariant (c.in-Err.ensures at.0 at.1)
