-- The events of the tag are held to the message, as those of a byte are.
use Rattle.std.proofs.Common.{List, [], ℕ, ◌++◌, arith, take, subst, sym}
use Rattle.std.specs.Prelude.{Err}
use Rattle.std.proofs.lemmas.List.{length-take-le}
use Rattle.std.specs.List.{AllByRecursion}
use Rattle.markup.specs.declared.event.Event.{Event}
use Rattle.markup.specs.Reading.{GoesOn}
use Rattle.respell.specs.Respelling.{HasSortedAttributes}
use Rattle.message_model.specs.Tables.{message_of}
use Rattle.xml_instances.specs.Levels.{levels_over}
use Rattle.xml_instances.specs.EventFaults.{AreFine}
use Rattle.xml_instances.specs.XmlFaults.{items_told}
use Rattle.xml_instances.specs.Built.{EventsShow}
use Rattle.xml_instances.specs.Keeping.{GoOn}
use Rattle.xml_instances.specs.Open.{IsOpen}
use Rattle.xml_instances.specs.Checking.{items_in_events, AreTaken}
use Rattle.xml_instances.specs.declared.checker.XmlChecker.{XmlChecker}
use Rattle.xml_instances.proofs.Checks.{events_fed, sorted_told}
use Rattle.xml_instances.proofs.StartFronts.{front_stops, told_events}
use Rattle.xml_instances.proofs.Refusals.{stops_at_event}
use Rattle.xml_instances.proofs.checker.XmlChecker.take_any_start.Goals as goal

pub returns-clause-front : goal.returns-clause-front
returns-clause-front c before piece r =
    let T = c.args.model.now in
    let m = message_of T in
    let n = c.args.tag.now.bytes in
    let reader = c.args.self.now.reader in
    let old : XmlChecker = record c.args.self.now { reader = before } in
    let seen : List ℕ = take n piece in
    record {
      ok = λ bytes h.
          let ls = levels_over m [] (items_told h.told) in
          let k = c.in_default-take_all.ensures.taken ls h.open_are in
          let g : GoesOn reader (bytes ++ seen) h.told old.events c.tell.new.out = told_events T old reader bytes piece c.args.tag.now c.tell.new.out h r c.in_default.ensures.ok in
          let sorted = sorted_told reader (bytes ++ seen) h.told old.events c.tell.new.out c.events_stay.ensures c.events_are_plain.ensures g h.none in
          events_fed T old (record { alloc = old.alloc; reader = reader; events = c.clear.new.self; content = c.take_all.new.content; place = c.saturating_add-self.result; failed = old.failed }) bytes seen n c.tell.new.out h
          g r.count (sym (length-take-le n piece r.within))
          (subst (λ (es : List Event). AreFine m ls (items_in_events es)) c.as_slice.ensures k.0)
          (subst (λ (es : List Event). IsOpen c.take_all.new.content m (levels_over m ls (items_in_events es))) c.as_slice.ensures k.1)
          (subst (λ (es : List Event). GoOn old.content.pieces c.take_all.new.content.pieces (EventsShow T ls (items_in_events es))) c.as_slice.ensures (c.in_default-take_all.ensures.shown ls h.open_are (subst (λ (es : List Event). AllByRecursion HasSortedAttributes (items_in_events es)) (sym c.as_slice.ensures) sorted)))
          c.clear.ensures
          h.sound c.saturating_add-self.ensures (let w = r.within in let k = r.room in omega (arith, w, k));
      err = λ bytes h. tt;
      within = r.within;
      count = r.count;
    }

pub returns-in-Err-take_all-clause-front : goal.returns-in-Err-take_all-clause-front
returns-in-Err-take_all-clause-front c before piece r =
    let T = c.args.model.now in
    let m = message_of T in
    let n = c.args.tag.now.bytes in
    let reader = c.args.self.now.reader in
    let old : XmlChecker = record c.args.self.now { reader = before } in
    front_stops T old _ piece n c.in-Err-take_all.error
    (λ bytes h.
    let ls = levels_over m [] (items_told h.told) in
    stops_at_event T old reader bytes (take n piece) c.tell.new.out c.take_all.new.content c.in-Err-take_all.error h c.events_stay.ensures (told_events T old reader bytes piece c.args.tag.now c.tell.new.out h r c.in_default.ensures.ok)
    (subst (λ (es : List Event). AreTaken {T = Unit {0}} m ls es c.take_all.new.content (Err c.in-Err-take_all.error)) c.as_slice.ensures (c.in-Err-take_all.ensures.taken ls h.open_are)))
