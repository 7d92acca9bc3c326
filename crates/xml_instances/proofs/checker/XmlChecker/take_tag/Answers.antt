use Rattle.std.proofs.Common.{◌≡◌, ◌+◌, ◌<◌, ◌≤◌, ◌++◌, length, take, refl}
use Rattle.markup.specs.PlainTags.{tag_items, name_behind}
use Rattle.markup.specs.Reading.{HasTold, bytes_taken}
use Rattle.markup.specs.Scopes.{placed_at}
use Rattle.markup.specs.declared.plain_tag.PlainTag.{PlainTag}
use Rattle.markup.proofs.StartsTold.{some_holds}
use Rattle.xml_instances.proofs.QuickFed.{front_tag, front_tag_stops}
use Rattle.xml_instances.proofs.checker.XmlChecker.take_tag.Goals as goal

pub returns-in-Ok-clause-front : goal.returns-in-Ok-clause-front
returns-in-Ok-clause-front c =
    let t = c.in-Ok-Some.tag in
    let o = c.in-Ok-Some.field-0 in
    let e = c.in-Ok-Some.field-0-is in
    front_tag c.args.model.now c.args.self.now _ c.args.piece.now t.name.now (tag_items t.kind) t.bytes
    (some_holds (λ (t : PlainTag). (0 < t.bytes) × (t.bytes ≤ length c.args.piece.now)) o t e c.in-Ok-Some.ensures.within).1 c.requires.room
    (λ bytes told h. some_holds (λ (t : PlainTag). HasTold c.take_tag.new.self (bytes ++ take t.bytes c.args.piece.now) (told ++ placed_at (length bytes) (tag_items t.kind (name_behind told t.name.now)))) o t e (c.in-Ok-Some.ensures.taken _ bytes told h))
    (some_holds (λ (t : PlainTag). bytes_taken c.take_tag.new.self ≡ bytes_taken c.args.self.now.reader + t.bytes) o t e c.in-Ok-Some.ensures.count)
    c.saturating_add-self.ensures refl refl c.in-Ok.ensures.taken c.in-Ok.ensures.shown (c.keeps_names.ensures c.if-keeps_names.false)

pub returns-in-Err-hold_tag-clause-front : goal.returns-in-Err-hold_tag-clause-front
returns-in-Err-hold_tag-clause-front c =
    let t = c.in-Ok-Some.tag in
    let o = c.in-Ok-Some.field-0 in
    let e = c.in-Ok-Some.field-0-is in
    let k = c.in-Err-hold_tag.ensures.taken in
    front_tag_stops c.args.model.now c.args.self.now _ c.args.piece.now t.name.now (tag_items t.kind) t.bytes k.0 c.hold_tag.new.stop c.events_stay.ensures
    (λ bytes told h. some_holds (λ (t : PlainTag). HasTold c.take_tag.new.self (bytes ++ take t.bytes c.args.piece.now) (told ++ placed_at (length bytes) (tag_items t.kind (name_behind told t.name.now)))) o t e (c.in-Ok-Some.ensures.taken _ bytes told h)) k.1 k.2
