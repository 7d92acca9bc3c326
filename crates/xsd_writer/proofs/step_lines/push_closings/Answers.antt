-- The end of each step follows those before it.
use Rattle.std.proofs.Common.{◌≡◌, ◌++◌, ap, length}
use Rattle.outside.proofs.PushedFronts.{to_more, to_stops}
use Rattle.xsd_writer.specs.inner.StepLines.{closing_lines, closings}
use Rattle.xsd_writer.proofs.step_lines.push_closings.Goals as goal

pub loop-step-preserved : goal.loop-step-preserved
loop-step-preserved g c =
    let behind = c.in-Some.behind.now in
    let is : closings c.loop-step.left.now ≡ closing_lines (length behind) c.in-Some.step.now ++ closings behind = ap closings c.in-Some.ensures.cases.0 in
    to_more g.O.Sink.held g.O.Sink.faults g.O.Sink.room _ _ _ (closings c.args.later.now) _ (closing_lines (length behind) c.in-Some.step.now) (closings behind) is
    c.loop-step.invariant c.in_default-push_closing.ensures

pub returns-in-Err : goal.returns-in-Err
returns-in-Err g c =
    let behind = c.in-Some.behind.now in
    let is : closings c.loop-step.left.now ≡ closing_lines (length behind) c.in-Some.step.now ++ closings behind = ap closings c.in-Some.ensures.cases.0 in
    to_stops g.O.Sink.held g.O.Sink.faults g.O.Sink.room _ _ _ (closings c.args.later.now) _ (closing_lines (length behind) c.in-Some.step.now) (closings behind) c.in-Err.error is
    c.loop-step.invariant c.in-Err.ensures
