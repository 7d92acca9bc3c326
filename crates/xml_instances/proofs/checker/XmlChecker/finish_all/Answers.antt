use Rattle.std.proofs.Common.{[], subst}
use Rattle.markup.specs.Reading.{EndsEarly}
use Rattle.message_model.specs.Tables.{message_of}
use Rattle.xml_instances.specs.Levels.{levels_over}
use Rattle.xml_instances.specs.XmlFaults.{items_told}
use Rattle.xml_instances.proofs.Checks.{spelled_at_end, spelled_by_events}
use Rattle.xml_instances.proofs.Refusals.{ends_at_mark}
use Rattle.xml_instances.proofs.checker.XmlChecker.finish_all.Goals as goal

pub returns-in-Ok-clause-ok : goal.returns-in-Ok-clause-ok
returns-in-Ok-clause-ok c bytes h = spelled_at_end c.args.model.now c.args.self.now bytes c.fine_is_spelled.ensures c.type_count.ensures.sound h (c.in-Ok.ensures.ok _ bytes h.told h.given)

pub returns-in-Err-Refused-clause-err : goal.returns-in-Err-Refused-clause-err
returns-in-Err-Refused-clause-err c bytes h =
    ends_at_mark c.args.model.now c.args.self.now bytes c.in-Err-Refused.fault c.mark_error.result h c.one_token.ensures c.nothing_at_clean.ensures (c.events_are_all.ensures c.args.self.now.reader bytes h.told h.given)
    (subst (EndsEarly bytes) c.in-Err-Refused.field-0-is (c.in-Err-Refused.ensures.err _ bytes h.told h.given))
    (c.mark_error.ensures (levels_over (message_of c.args.model.now) [] (items_told h.told)) h.open_are)

pub returns-in-Ok-clause-spelled_by : goal.returns-in-Ok-clause-spelled_by
returns-in-Ok-clause-spelled_by c bytes h = spelled_by_events c.args.model.now c.args.self.now bytes c.fine_is_spelled.ensures c.type_count.ensures.sound h (c.in-Ok.ensures.ok _ bytes h.told h.given)
