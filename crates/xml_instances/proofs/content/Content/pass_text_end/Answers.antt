use Rattle.std.proofs.Common.{rules, ◌∙◌}
use Rattle.message_model.specs.Tables.{message_of}
use Rattle.xml_instances.specs.declared.opened.Opened.TheVariants as opened
use Rattle.xml_instances.proofs.PassedPieces.{text_closed}
use Rattle.xml_instances.proofs.content.Content.pass_text_end.Goals as goal

pub returns-clause-shown : goal.returns-clause-shown
returns-clause-shown c ls n h done =
    text_closed c.args.model.now ls n c.args.self.now.innermost c.args.self.now.text c.args.self.now.round.items c.args.self.now.pieces c.pass_text.new.self.pieces c.close_innermost.new.self.pieces c.requires.text h
    (λ simple text k. c.in_ok-passed.ensures.shown simple text k (search rules))
    (λ l k. c.in_ok-close_innermost.ensures.shown (message_of c.args.model.now) c.args.self.now.text l opened.Text (c.pass_text.ensures.innermost ∙ c.requires.text) k)
