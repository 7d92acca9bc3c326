use Rattle.std.proofs.Common.{rules, ◌≡◌, Some, refl, sym, ◌∙◌}
use Rattle.message_model.specs.Sound.{count_with}
use Rattle.message_model.specs.Tables.{message_of, types_of}
use Rattle.xml_instances.specs.declared.opened.Opened.TheVariants as opened
use Rattle.xml_instances.proofs.Passing.{started}
use Rattle.xml_instances.proofs.PassedPieces.{started_shown}
use Rattle.xml_instances.proofs.content.Content.pass_start.Goals as goal

pub returns-clause-taken : goal.returns-clause-taken
returns-clause-taken c ls n e ours h done =
    let number = c.in-Some-Parent.number in
    let last = c.in-Some-Parent.last in
    let count = c.in-Some-Parent.count in
    let k = c.in-Slot.at in
    let again : c.in-Some-counted.count ≡ count_with last count k = c.in-Some-counted.ensures in
    started (message_of c.args.model.now) ls n c.args.local.now c.args.self.now
    (record { alloc = c.args.self.now.alloc; innermost = Some (opened.Parent number (Some k) c.in-Some-counted.count); round = c.args.self.now.round; text = c.args.self.now.text; checks = c.args.self.now.checks; pieces = c.args.self.now.pieces })
    c.push_round.new.self c.begin-2.new.self number c.in-Some.target k last count c.in-Some-counted.count (search rules) refl again refl h ours e c.in-Some.ensures
    (λ d came ends. sym (c.in-Slot.ensures d came ends))
    (λ d came ends longer. c.slot_comes.ensures (types_of c.args.model.now number) d last count c.args.local.now k (c.type_count.ensures.sound number) came ends longer)
    c.in_ok-push_round.ensures.round c.in_ok-begin-2.ensures.round c.in_ok-begin-2.ensures.taken

pub returns-clause-shown : goal.returns-clause-shown
returns-clause-shown c ls n e ours h done =
    started_shown c.args.model.now ls n c.args.local.now c.args.self.now.innermost c.in-Some-Parent.number c.in-Some-Parent.last c.in-Some-Parent.count c.args.self.now.text c.args.self.now.round.items
    c.args.self.now.pieces c.begin.new.pieces c.begin-2.new.self.pieces c.in-Slot.at c.in-Some.target (search rules) h e c.in-Some.ensures (λ d came ends. sym (c.in-Slot.ensures d came ends))
    (c.begin-2.ensures.pieces ∙ c.push_round.ensures.pieces) c.in_ok-begin.ensures.shown
