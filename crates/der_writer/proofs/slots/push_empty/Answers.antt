use Rattle.std.proofs.Common.{drop, sym}
use Rattle.outside.proofs.PushedFronts.{to_more, to_stops, to_all}
use Rattle.reference_check.specs.Forms.{form_slots}
use Rattle.message_model.specs.Tables.{types_of}
use Rattle.der_writer.proofs.EmptySlots.{empty_between}
use Rattle.der_writer.proofs.slots.push_empty.Goals as goal

pub returns-in_default : goal.returns-in_default
returns-in_default g c = to_all g.O.Sink.held g.O.Sink.faults g.O.Sink.room _ _ _ _ c.in_default.ensures.none c.loop-next.invariant

pub returns-in-Err : goal.returns-in-Err
returns-in-Err g c = to_stops g.O.Sink.held g.O.Sink.faults g.O.Sink.room _ _ _ _ _ _ _ c.in-Err.error c.in-Some.ensures.some c.loop-next.invariant c.in-Err.ensures

pub loop-next-preserved : goal.loop-next-preserved
loop-next-preserved g c = to_more g.O.Sink.held g.O.Sink.faults g.O.Sink.room _ _ _ _ _ _ _ c.in-Some.ensures.some c.loop-next.invariant c.in_default-push_head.ensures

pub returns : goal.returns
returns g c =
    let slots = form_slots (types_of c.args.model.now c.args.number) in
    to_all g.O.Sink.held g.O.Sink.faults g.O.Sink.room _ _ _ _ (sym (empty_between c.loop-next.next c.args.to (drop c.loop-next.next slots) c.loop-next-test.false)) c.loop-next.invariant
