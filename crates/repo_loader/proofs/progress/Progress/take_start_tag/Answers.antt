-- The reader takes the tag, and its start and end are read, or it shows a fault.
use Rattle.std.proofs.Common.{◌++◌, take, refl, sym, subst}
use Rattle.repo_loader.specs.declared.progress.Progress.{Progress}
use Rattle.repo_loader.specs.inner.ProgressSteps.{ReadsOn, ShowsLoadFault}
use Rattle.repo_loader.proofs.ReadSteps.{tag_texts, tag_read, tag_refused, front_broken}
use Rattle.repo_loader.proofs.progress.Progress.take_start_tag.Goals as goal

pub take_tag-requires-clause-texts : goal.take_tag-requires-clause-texts
take_tag-requires-clause-texts c =
    let h = c.requires.read.1 in
    tag_texts c.take_start_tag.new.self c.requires.read.0 c.args.piece.now h.told c.in-Ok-Some.field-0 c.in-Ok-Some.tag c.in-Ok-Some.field-0-is (c.in-Ok-Some.ensures.taken _ c.requires.read.0 h.told h.given)

pub returns-in-Err-Refused-clause-read : goal.returns-in-Err-Refused-clause-read
returns-in-Err-Refused-clause-read c bytes h =
    subst (ShowsLoadFault (bytes ++ c.args.piece.now)) (sym c.fault_of_markup.ensures)
    (tag_refused c.args.self.now bytes c.args.piece.now c.in-Err-Refused.field-0 c.in-Err-Refused.fault h c.in-Err-Refused.field-0-is (c.in-Err-Refused.ensures.err _ bytes h.told h.given))

pub returns-in-Some-clause-read : goal.returns-in-Some-clause-read
returns-in-Some-clause-read c bytes h =
    let new : Progress = record { reader = c.take_start_tag.new.self; events = c.args.self.now.events; selection = c.take_tag.new.self } in
    let n = c.in-Ok-Some.tag.bytes in
    let read = tag_read c.args.self.now new bytes c.args.piece.now c.in-Ok-Some.field-0 c.in-Ok-Some.tag h c.in-Ok-Some.field-0-is (c.in-Ok-Some.ensures.taken _ bytes h.told h.given) c.in-Ok-Some.ensures.within c.in-Ok-Some.ensures.count
    refl c.place-place.result c.place-place.ensures c.in_ok-fault.field-0 (c.in_ok-fault.ensures h.told h.loaded) in
    front_broken new bytes c.args.piece.now n c.in-Some.fault (subst (ReadsOn new (bytes ++ take n c.args.piece.now)) c.in-Some.is read)

pub returns-clause-read : goal.returns-clause-read
returns-clause-read c bytes h =
    let new : Progress = record { reader = c.take_start_tag.new.self; events = c.args.self.now.events; selection = c.take_tag.new.self } in
    let n = c.in-Ok-Some.tag.bytes in
    let read = tag_read c.args.self.now new bytes c.args.piece.now c.in-Ok-Some.field-0 c.in-Ok-Some.tag h c.in-Ok-Some.field-0-is (c.in-Ok-Some.ensures.taken _ bytes h.told h.given) c.in-Ok-Some.ensures.within c.in-Ok-Some.ensures.count
    refl c.place-place.result c.place-place.ensures c.in_ok-fault.field-0 (c.in_ok-fault.ensures h.told h.loaded) in
    subst (ReadsOn new (bytes ++ take n c.args.piece.now)) c.in-None.is read
