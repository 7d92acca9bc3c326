use Rattle.std.proofs.Common.{rules}
use Rattle.message_model.proofs.Ahead.{told_at, firm_found, firm_none}
use Rattle.message_model.proofs.slot_list.Slots.first_firm.Goals as goal

pub returns-then-firm-len-clause-some : goal.returns-then-firm-len-clause-some
returns-then-firm-len-clause-some c =
    let told = told_at c.self.inside.list.items c.args.self.now c.deref.result.now c.args.from c.in-Some.slot.now c.self.view_is c.self.invariant c.deref.ensures.value c.in-Some.ensures.lookup.3.0 c.in-Some.ensures.lookup.1 in
    firm_found c.args.self.now c.args.from c.in-Some.slot.now.ahead.firm told.firm (search rules)

pub returns-else-firm-len-clause-none : goal.returns-else-firm-len-clause-none
returns-else-firm-len-clause-none c =
    let told = told_at c.self.inside.list.items c.args.self.now c.deref.result.now c.args.from c.in-Some.slot.now c.self.view_is c.self.invariant c.deref.ensures.value c.in-Some.ensures.lookup.3.0 c.in-Some.ensures.lookup.1 in
    firm_none c.args.self.now c.args.from c.in-Some.slot.now.ahead.firm told.firm (search rules)
