use Rattle.message_model.proofs.Ahead.{told_at, due_below, due_past}
use Rattle.message_model.proofs.slot_list.Slots.first_due.Goals as goal

pub returns-then-due-to : goal.returns-then-due-to
returns-then-due-to c =
    let told = told_at c.self.inside.list.items c.args.self.now c.deref.result.now c.args.from c.in-Some.slot.now c.self.view_is c.self.invariant c.deref.ensures.value c.in-Some.ensures.lookup.3.0 c.in-Some.ensures.lookup.1 in
    due_below c.args.self.now c.args.from c.args.to c.in-Some.slot.now.ahead.due told.due c.requires.to c.if-due-to.true

pub returns-else-due-to : goal.returns-else-due-to
returns-else-due-to c =
    let told = told_at c.self.inside.list.items c.args.self.now c.deref.result.now c.args.from c.in-Some.slot.now c.self.view_is c.self.invariant c.deref.ensures.value c.in-Some.ensures.lookup.3.0 c.in-Some.ensures.lookup.1 in
    due_past c.args.self.now c.args.from c.args.to c.in-Some.slot.now.ahead.due told.due c.requires.to c.if-due-to.false
