use Rattle.std.proofs.Common.{[], ◌∷◌, sym, subst}
use Rattle.std.specs.Prelude.{Err}
use Rattle.std.specs.Prelude.{OnOk}
use Rattle.std.proofs.lemmas.Result.{on_ok_weaker}
use Rattle.lexical_core.specs.Tree.{Starts, Ends}
use Rattle.markup.specs.PlainTags.{tag_items}
use Rattle.markup.specs.declared.plain_tag.TagKind.{TagKind}
use Rattle.markup.specs.declared.plain_tag.TagKind.TheVariants.{Empty}
use Rattle.message_model.specs.Tables.{message_of}
use Rattle.xml_instances.specs.Levels.{levels_after}
use Rattle.xml_instances.specs.inner.Quick.{AreItemsTaken}
use Rattle.xml_instances.proofs.QuickRuns.{one_item, first_wrong, two_items}
use Rattle.xml_instances.proofs.GoingOn.{go_then}
use Rattle.xml_instances.specs.Built.{ShowsBeside}
use Rattle.xml_instances.specs.Keeping.{GoOn, TagShowsBeside}
use Rattle.xml_instances.proofs.content.Content.hold_tag.Goals as goal

pub returns-in-Start-clause-taken : goal.returns-in-Start-clause-taken
returns-in-Start-clause-taken c ls n e ours h =
    subst (λ (k : TagKind). AreItemsTaken (message_of c.args.model.now) ls (tag_items k n) c.start_inside.new.self c.start_inside.result) (sym c.in-Start.is)
    (one_item (message_of c.args.model.now) ls (Starts n []) c.start_inside.new.self c.start_inside.result (c.start_inside.ensures.taken ls n e ours h))

pub returns-in-End-clause-taken : goal.returns-in-End-clause-taken
returns-in-End-clause-taken c ls n e ours h =
    subst (λ (k : TagKind). AreItemsTaken (message_of c.args.model.now) ls (tag_items k n) c.end-in-End.new.self c.end-in-End.result) (sym c.in-End.is)
    (one_item (message_of c.args.model.now) ls (Ends n) c.end-in-End.new.self c.end-in-End.result (c.end-in-End.ensures.taken ls n h))

pub returns-in-Ok-clause-taken : goal.returns-in-Ok-clause-taken
returns-in-Ok-clause-taken c ls n e ours h =
    subst (λ (k : TagKind). AreItemsTaken (message_of c.args.model.now) ls (tag_items k n) c.end.new.self c.end.result) (sym c.in-Empty.is)
    (two_items {T = Unit {0}} {U = Unit {0}} (message_of c.args.model.now) ls (Starts n []) (Ends n) c.start_inside-in-Empty.new.self c.end.new.self tt c.end.result (c.in-Ok.ensures.taken ls n e ours h)
    (λ k. c.end.ensures.taken (levels_after (message_of c.args.model.now) ls (Starts n [])) n k))

pub returns-in-Err-clause-taken : goal.returns-in-Err-clause-taken
returns-in-Err-clause-taken c ls n e ours h =
    subst (λ (k : TagKind). AreItemsTaken {T = Unit {0}} (message_of c.args.model.now) ls (tag_items k n) c.start_inside-in-Empty.new.self (Err c.in-Err.refusal)) (sym c.in-Empty.is)
    (first_wrong (Unit {0}) (message_of c.args.model.now) ls (Starts n []) (Ends n ∷ []) c.start_inside-in-Empty.new.self c.in-Err.refusal (c.in-Err.ensures.taken ls n e ours h))

pub returns-in-Start-clause-shown : goal.returns-in-Start-clause-shown
returns-in-Start-clause-shown c ls n e ours h =
    subst (λ (k : TagKind). OnOk c.start_inside.result (GoOn c.args.self.now.pieces c.start_inside.new.self.pieces (TagShowsBeside c.args.model.now ls k n))) (sym c.in-Start.is) (c.start_inside.ensures.shown ls n e h ours)

pub returns-in-End-clause-shown : goal.returns-in-End-clause-shown
returns-in-End-clause-shown c ls n e ours h =
    subst (λ (k : TagKind). OnOk c.end-in-End.result (GoOn c.args.self.now.pieces c.end-in-End.new.self.pieces (TagShowsBeside c.args.model.now ls k n))) (sym c.in-End.is) (c.end-in-End.ensures.shown ls n h)

pub returns-in-Ok-clause-shown : goal.returns-in-Ok-clause-shown
returns-in-Ok-clause-shown c ls n e ours h =
    let m = message_of c.args.model.now in
    let taken = c.in-Ok.ensures.taken ls n e ours h in
    subst (λ (k : TagKind). OnOk c.end.result (GoOn c.args.self.now.pieces c.end.new.self.pieces (TagShowsBeside c.args.model.now ls k n))) (sym c.in-Empty.is)
    (on_ok_weaker c.end.result (λ on. go_then {Q = TagShowsBeside c.args.model.now ls Empty n} {R = ShowsBeside c.args.model.now ls (Starts n [])} {S = ShowsBeside c.args.model.now (levels_after m ls (Starts n [])) (Ends n)}
    c.args.self.now.pieces c.start_inside-in-Empty.new.self.pieces c.end.new.self.pieces (λ s u t x y. (u, x, y)) (c.in-Ok.ensures.shown ls n e h ours) on)
    (c.end.ensures.shown (levels_after m ls (Starts n [])) n taken.1))
