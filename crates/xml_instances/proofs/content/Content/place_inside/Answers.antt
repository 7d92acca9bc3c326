use Rattle.std.proofs.Common.{rules, ap}
use Rattle.message_model.specs.Tables.{message_of}
use Rattle.xml_instances.proofs.Contents.{place_text, place_envelope}
use Rattle.xml_instances.proofs.QuickTags.{place_ours, place_root}
use Rattle.xml_instances.proofs.content.Content.place_inside.Goals as goal

pub returns-in-None-clause-taken : goal.returns-in-None-clause-taken
returns-in-None-clause-taken c ls n e ours h = place_root (message_of c.args.model.now) ls n c.args.local.now c.args.self.now c.root.result (search rules) h ours e c.root.ensures

pub returns-in-Some-Text-clause-taken : goal.returns-in-Some-Text-clause-taken
returns-in-Some-Text-clause-taken c ls n e ours h =
    place_text (message_of c.args.model.now) ls n c.args.self.now c.args.self.now.innermost c.args.self.now.text c.args.self.now.round.items c.refused.result (search rules) h c.refused.ensures

pub returns-in-Some-Envelope-clause-taken : goal.returns-in-Some-Envelope-clause-taken
returns-in-Some-Envelope-clause-taken c ls n e ours h =
    place_envelope (message_of c.args.model.now) ls n c.fill.new.self c.args.self.now.innermost c.in-Some-Envelope.filled c.args.self.now.text c.args.self.now.round.items c.fill.result
    (search rules) (ap (λ v. v.items) c.fill.ensures.round) h c.fill.ensures.taken

pub returns-in-Some-Parent-clause-taken : goal.returns-in-Some-Parent-clause-taken
returns-in-Some-Parent-clause-taken c ls n e ours h =
    place_ours (message_of c.args.model.now) ls n c.args.local.now c.child.new.self c.args.self.now.innermost c.in-Some-Parent.number c.in-Some-Parent.last c.in-Some-Parent.count c.args.self.now.text c.args.self.now.round.items c.child.result
    (search rules) (ap (λ v. v.items) c.child.ensures.round) h ours e c.child.ensures.taken
