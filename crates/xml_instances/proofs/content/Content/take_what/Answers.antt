use Rattle.std.proofs.Common.{map, subst, sym, ap, ◌∙◌}
use Rattle.std.specs.Prelude.{OnOk}
use Rattle.markup.specs.declared.event.What.{What}
use Rattle.markup.specs.TagAttributes.{tag_entry}
use Rattle.markup.specs.EventItems.{entry_of, item_of}
use Rattle.message_model.specs.Tables.{message_of}
use Rattle.xml_instances.specs.Built.{ShowsBeside}
use Rattle.xml_instances.specs.Keeping.{GoOn}
use Rattle.xml_instances.specs.Open.{IsTaken}
use Rattle.xml_instances.proofs.Contents.{start_at}
use Rattle.xml_instances.proofs.GoingOn.{start_shown_at}
use Rattle.xml_instances.proofs.content.Content.take_what.Goals as goal

pub returns-in-Ok-clause-taken : goal.returns-in-Ok-clause-taken
returns-in-Ok-clause-taken c ls h = subst (λ (w : What). IsTaken (message_of c.args.model.now) ls w c.start.new.self c.start.result) (sym c.in-Start.is)
    (start_at (message_of c.args.model.now) ls c.start.new.self c.start.result _ c.in-Start.ns _ c.in-Start.local (map tag_entry c.as_slice-in-Start.result.now) (map entry_of c.in-Start.attrs) c.bytes.ensures c.bytes-in-Start.ensures (ap (map tag_entry) c.as_slice-in-Start.ensures.value ∙ (c.in-Ok.ensures ∙ ap (map entry_of) c.as_slice.ensures)) (c.start.ensures.taken ls h))

pub returns-in-Char-clause-taken : goal.returns-in-Char-clause-taken
returns-in-Char-clause-taken c ls h = subst (λ (w : What). IsTaken (message_of c.args.model.now) ls w c.character.new.self c.character.result) (sym c.in-Char.is) (c.character.ensures.taken ls h)

pub returns-in-End-clause-taken : goal.returns-in-End-clause-taken
returns-in-End-clause-taken c ls h = subst (λ (w : What). IsTaken (message_of c.args.model.now) ls w c.end.new.self c.end.result) (sym c.in-End.is) (c.end.ensures.taken ls _ h)

pub returns-in-Ok-clause-shown : goal.returns-in-Ok-clause-shown
returns-in-Ok-clause-shown c ls h = subst (λ (w : What). OnOk c.start.result (GoOn c.args.self.now.pieces c.start.new.self.pieces (ShowsBeside c.args.model.now ls (item_of w)))) (sym c.in-Start.is)
    (start_shown_at c.args.model.now ls c.args.self.now.pieces c.start.new.self.pieces c.start.result _ c.in-Start.ns _ c.in-Start.local (map tag_entry c.as_slice-in-Start.result.now) (map entry_of c.in-Start.attrs) c.bytes.ensures c.bytes-in-Start.ensures (ap (map tag_entry) c.as_slice-in-Start.ensures.value ∙ (c.in-Ok.ensures ∙ ap (map entry_of) c.as_slice.ensures)) (c.start.ensures.shown ls h))

pub returns-in-End-clause-shown : goal.returns-in-End-clause-shown
returns-in-End-clause-shown c ls h = subst (λ (w : What). OnOk c.end.result (GoOn c.args.self.now.pieces c.end.new.self.pieces (ShowsBeside c.args.model.now ls (item_of w)))) (sym c.in-End.is) (c.end.ensures.shown ls _ h)
