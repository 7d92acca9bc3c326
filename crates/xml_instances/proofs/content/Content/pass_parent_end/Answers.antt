use Rattle.message_model.specs.Tables.{message_of}
use Rattle.xml_instances.specs.declared.opened.Opened.TheVariants as opened
use Rattle.xml_instances.proofs.PassedPieces.{parent_closed}
use Rattle.xml_instances.proofs.content.Content.pass_parent_end.Goals as goal

pub returns-clause-shown : goal.returns-clause-shown
returns-clause-shown c ls n h done =
    parent_closed c.args.model.now ls n c.args.self.now.innermost c.args.number c.args.last c.args.count c.args.self.now.text c.args.self.now.round.items c.args.self.now.pieces c.close_innermost.new.self.pieces c.requires.parent h
    (λ l k. c.in_ok-close_innermost.ensures.shown (message_of c.args.model.now) c.args.self.now.text l (opened.Parent c.args.number c.args.last c.args.count) c.requires.parent k)
