use Rattle.std.proofs.Common.{List, [], ◌++◌, refl, subst, sym}
use Rattle.markup.specs.Reading.{Stops as MarkStops}
use Rattle.markup.specs.declared.event.Event.{Event}
use Rattle.markup.specs.declared.reader.MarkError.TheVariants.{Refused}
use Rattle.message_model.specs.Tables.{message_of}
use Rattle.xml_instances.specs.Levels.{levels_over}
use Rattle.xml_instances.specs.XmlFaults.{items_told}
use Rattle.xml_instances.proofs.QuickFed.{front_still}
use Rattle.xml_instances.proofs.StartFronts.{front_refused, start_taken}
use Rattle.xml_instances.proofs.Refusals.{stops_at_mark}
use Rattle.xml_instances.proofs.checker.XmlChecker.take_start_tag.Goals as goal

pub returns-in-Err-Refused-clause-front : goal.returns-in-Err-Refused-clause-front
returns-in-Err-Refused-clause-front c =
    front_refused c.args.model.now c.args.self.now _ c.args.piece.now c.mark_error.result
    (λ bytes h.
    stops_at_mark c.args.model.now c.args.self.now bytes c.args.piece.now [] c.in-Err-Refused.fault c.mark_error.result h c.one_token.ensures c.fronts_agree.ensures c.nothing_at_clean.ensures c.tokens_have_bytes.ensures
    (subst (λ (es : List Event). MarkStops (bytes ++ c.args.piece.now) h.told es [] (Refused c.in-Err-Refused.fault)) (sym h.none)
    (subst (MarkStops (bytes ++ c.args.piece.now) h.told [] []) c.in-Err-Refused.field-0-is (c.in-Err-Refused.ensures.err _ bytes h.told h.given)))
    tt (c.mark_error.ensures (levels_over (message_of c.args.model.now) [] (items_told h.told)) h.open_are))

pub returns-then-is_in_parent-clause-front : goal.returns-then-is_in_parent-clause-front
returns-then-is_in_parent-clause-front c =
    c.take_inner_start.ensures.front c.args.self.now.reader c.args.piece.now
    (start_taken c.args.self.now.reader c.take_start_tag.new.self c.args.piece.now c.in-Ok-Some.field-0 c.in-Ok-Some.tag c.in-Ok-Some.field-0-is c.in-Ok-Some.ensures.within c.requires.room
    (λ bytes told h. c.in-Ok-Some.ensures.taken _ bytes told h) (λ bytes told h. c.in-Ok-Some.ensures.same_ns _ bytes told h) c.in-Ok-Some.ensures.count)

pub returns-clause-front : goal.returns-clause-front
returns-clause-front c =
    c.take_other_start.ensures.front c.args.self.now.reader c.args.piece.now
    (start_taken c.args.self.now.reader c.take_start_tag.new.self c.args.piece.now c.in-Ok-Some.field-0 c.in-Ok-Some.tag c.in-Ok-Some.field-0-is c.in-Ok-Some.ensures.within c.requires.room
    (λ bytes told h. c.in-Ok-Some.ensures.taken _ bytes told h) (λ bytes told h. c.in-Ok-Some.ensures.same_ns _ bytes told h) c.in-Ok-Some.ensures.count)

pub returns-in-Ok-None-clause-front : goal.returns-in-Ok-None-clause-front
returns-in-Ok-None-clause-front c = front_still c.args.model.now c.args.self.now _ c.args.piece.now (c.in-Ok-None.ensures.none c.in-Ok-None.field-0-is) refl refl refl refl
