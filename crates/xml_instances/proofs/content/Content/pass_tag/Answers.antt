use Rattle.std.proofs.Common.{◌≡◌, [], true, sym, subst}
use Rattle.std.specs.Prelude.{IfOk}
use Rattle.lexical_core.specs.Tree.{Starts, Ends}
use Rattle.markup.specs.PlainTags.{tag_items}
use Rattle.markup.specs.declared.plain_tag.TagKind.{TagKind}
use Rattle.message_model.specs.Tables.{message_of}
use Rattle.xml_instances.specs.Built.{EventsShow}
use Rattle.xml_instances.specs.Keeping.{GoOn}
use Rattle.xml_instances.specs.inner.Quick.{PassAll}
use Rattle.xml_instances.proofs.Passing.{passes_one}
use Rattle.xml_instances.proofs.PassedPieces.{shows_one}
use Rattle.xml_instances.proofs.content.Content.pass_tag.Goals as goal

pub returns-in-Start-clause-taken : goal.returns-in-Start-clause-taken
returns-in-Start-clause-taken c ls n e ours h =
    subst (λ (k : TagKind). IfOk c.pass_start.result (λ done. done ≡ true → PassAll (message_of c.args.model.now) ls (tag_items k n) c.pass_start.new.self)) (sym c.in-Start.is)
    (passes_one (message_of c.args.model.now) ls (Starts n []) c.pass_start.new.self c.pass_start.result (c.pass_start.ensures.taken ls n e ours h))

pub returns-in-Start-clause-shown : goal.returns-in-Start-clause-shown
returns-in-Start-clause-shown c ls n e ours h =
    subst (λ (k : TagKind). IfOk c.pass_start.result (λ done. done ≡ true → GoOn c.args.self.now.pieces c.pass_start.new.self.pieces (EventsShow c.args.model.now ls (tag_items k n)))) (sym c.in-Start.is)
    (shows_one c.args.model.now ls (Starts n []) c.args.self.now.pieces c.pass_start.new.self.pieces c.pass_start.result (c.pass_start.ensures.shown ls n e ours h))

pub returns-in-End-clause-taken : goal.returns-in-End-clause-taken
returns-in-End-clause-taken c ls n e ours h =
    subst (λ (k : TagKind). IfOk c.pass_end.result (λ done. done ≡ true → PassAll (message_of c.args.model.now) ls (tag_items k n) c.pass_end.new.self)) (sym c.in-End.is)
    (passes_one (message_of c.args.model.now) ls (Ends n) c.pass_end.new.self c.pass_end.result (c.pass_end.ensures.taken ls n h))

pub returns-in-End-clause-shown : goal.returns-in-End-clause-shown
returns-in-End-clause-shown c ls n e ours h =
    subst (λ (k : TagKind). IfOk c.pass_end.result (λ done. done ≡ true → GoOn c.args.self.now.pieces c.pass_end.new.self.pieces (EventsShow c.args.model.now ls (tag_items k n)))) (sym c.in-End.is)
    (shows_one c.args.model.now ls (Ends n) c.args.self.now.pieces c.pass_end.new.self.pieces c.pass_end.result (c.pass_end.ensures.shown ls n h))
