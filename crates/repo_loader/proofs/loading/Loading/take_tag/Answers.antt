-- Each arm gives what is read one more tag, or tells the least rule.
use Rattle.std.proofs.Common.{◌++◌, ◌∷◌, [], sym, map, subst}
use Rattle.std.specs.Prelude.{OnOk}
use Rattle.std.proofs.lemmas.Result.{on_ok_weaker}
use Rattle.markup.specs.TagAttributes.{tag_entry}
use Rattle.repo_loader.specs.declared.part.Part.{Part}
use Rattle.repo_loader.specs.inner.Stops.{IsSoundTag}
use Rattle.repo_loader.specs.inner.LoadingSteps.{HasTags}
use Rattle.repo_loader.proofs.EntryRules.{sound_other}
use Rattle.repo_loader.proofs.TagSteps.{tag_of, entry_taken, message_taken, if_err, no_entry_part, no_message_part, other_closes, other_closes_message, other_tags, tells_numbers}
use Rattle.repo_loader.proofs.loading.Loading.take_tag.Goals as goal

pub returns-in-Entry-clause-ok : goal.returns-in-Entry-clause-ok
returns-in-Entry-clause-ok c tags has =
    let as' = map tag_entry c.args.attributes.now in
    subst (λ (p : Part). OnOk c.take_entry.result (HasTags c.take_entry.new.self (tags ++ tag_of p as' ∷ []) × IsSoundTag tags (tag_of p as'))) (sym c.in-Entry.is)
    (entry_taken c.take_entry.result c.args.self.now c.take_entry.new.self tags c.in-Entry.kind as' has (c.take_entry.ensures.ok tags has.objects) c.take_entry.ensures.messages c.take_entry.ensures.message)

pub returns-in_ok-take_message-in-Message-clause-ok : goal.returns-in_ok-take_message-in-Message-clause-ok
returns-in_ok-take_message-in-Message-clause-ok c tags has =
    let as' = map tag_entry c.args.attributes.now in
    let done = c.in_ok-take_message-in-Message.ensures in
    subst (λ (p : Part). HasTags c.take_message.new.self (tags ++ tag_of p as' ∷ []) × IsSoundTag tags (tag_of p as')) (sym c.in-Message.is)
    (message_taken c.args.self.now c.take_message.new.self tags as' has (done.ok tags has.messages) done.objects done.entry)

pub returns-in_default : goal.returns-in_default
returns-in_default c =
    let as' = map tag_entry c.args.attributes.now in
    let old = c.args.self.now in
    let new = c.take_other.new.self in
    let entry = no_entry_part c.args.part c.in_default.not-Entry in
    let message = no_message_part c.args.part c.in_default.not-Message in
    let done = c.take_other.ensures.ok in
    record {
      can_close = on_ok_weaker c.take_other.result (other_closes old new c.args.part as' c.requires.texts c.requires.closes) done;
      can_close_message = on_ok_weaker c.take_other.result (other_closes_message old new c.args.part as' c.requires.texts c.requires.closes_message) done;
      ok = λ tags has. on_ok_weaker c.take_other.result (λ takes. (other_tags old new c.args.part as' tags entry message has takes, sound_other tags (tag_of c.args.part as') entry c.in_default.not-OtherRoot takes.numbers)) done;
      err = λ tags has. if_err c.take_other.result (λ stop tells. tells_numbers tags c.args.part as' stop entry c.in_default.not-OtherRoot tells) c.take_other.ensures.err;
    }
