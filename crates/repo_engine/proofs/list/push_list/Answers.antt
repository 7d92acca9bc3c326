use Rattle.std.proofs.Common.{◌≡◌, ◌<◌, arith, length, get_or, ap}
use Rattle.outside.proofs.Rendering.{one_more, one_stops}
use Rattle.repo_engine.proofs.Lists.{here}
use Rattle.repo_engine.specs.Texts.{message_line}
use Rattle.repo_engine.proofs.list.push_list.Goals as goal

pub loop-at-preserved : goal.loop-at-preserved
loop-at-preserved g c =
    let messages = c.args.repository.now.messages in
    let fits : c.loop-at.at < length messages = omega (arith, c.loop-at-test.true, c.message_count-at-end.ensures.count) in
    let is : c.in-Some.message.now ≡ get_or messages c.loop-at.at c.in-Some.message.now = here messages c.loop-at.at c.in-Some.message.now c.in-Some.ensures.message in
    one_more g.O.Sink.held g.O.Sink.faults g.O.Sink.room message_line messages c.loop-at.at c.in-Some.message.now _ _ _ (message_line c.in-Some.message.now) fits (ap message_line is)
    c.loop-at.invariant c.in_default-push_message.ensures

pub returns-in-Err : goal.returns-in-Err
returns-in-Err g c =
    let messages = c.args.repository.now.messages in
    let fits : c.loop-at.at < length messages = omega (arith, c.loop-at-test.true, c.message_count-at-end.ensures.count) in
    let is : c.in-Some.message.now ≡ get_or messages c.loop-at.at c.in-Some.message.now = here messages c.loop-at.at c.in-Some.message.now c.in-Some.ensures.message in
    one_stops g.O.Sink.held g.O.Sink.faults g.O.Sink.room message_line messages c.loop-at.at c.in-Some.message.now _ _ _ (message_line c.in-Some.message.now) c.in-Err.error fits (ap message_line is)
    c.loop-at.invariant c.in-Err.ensures
