-- The events are read, or they show a fault, or the byte does.
use Rattle.std.proofs.Common.{◌∷◌, ◌++◌, [], sym, subst, ap, ◌∙◌}
use Rattle.markup.specs.Reading.{GoesOn, Stops, bytes_taken}
use Rattle.repo_loader.proofs.ReadSteps.{goes_texts, refuses_texts, reads_on, first_shows, if_none, ok_map}
use Rattle.repo_loader.proofs.progress.Progress.take.Goals as goal

pub take_events-requires : goal.take_events-requires
take_events-requires c =
    let h = c.requires.read.1 in
    record {
      loaded = (h.told, h.loaded);
      texts = goes_texts c.take.new.self (c.requires.read.0 ++ c.args.byte ∷ []) h.told c.args.self.now.events c.take.new.out h.none (c.in-Ok.ensures.ok _ c.requires.read.0 h.told h.given);
    }

pub first_fault-requires : goal.first_fault-requires
first_fault-requires c =
    let h = c.requires.read.1 in
    record {
      loaded = (h.told, h.loaded);
      texts = refuses_texts (c.requires.read.0 ++ c.args.byte ∷ []) h.told c.args.self.now.events c.take.new.out c.in-Err-Refused.fault h.none
          (subst (Stops (c.requires.read.0 ++ c.args.byte ∷ []) h.told c.args.self.now.events c.take.new.out) c.in-Err-Refused.field-0-is (c.in-Err-Refused.ensures.err _ c.requires.read.0 h.told h.given));
    }

pub returns-in-Ok : goal.returns-in-Ok
returns-in-Ok c = record {
  read = λ bytes h. ok_map c.take_events.result
      (reads_on c.args.self.now c.take_events.new.self bytes (c.args.byte ∷ []) c.take.new.out h
      (subst (λ r. GoesOn r (bytes ++ c.args.byte ∷ []) h.told c.args.self.now.events c.take.new.out) (sym c.take_events.ensures.reader) (c.in-Ok.ensures.ok _ bytes h.told h.given))
      (ap bytes_taken c.take_events.ensures.reader ∙ c.in-Ok.ensures.count) c.take_events.ensures.none)
      (c.take_events.ensures.loaded h.told h.loaded);
  count = if_none c.take_events.result (ap bytes_taken c.take_events.ensures.reader ∙ c.in-Ok.ensures.count);
}

pub returns-in_ok-first_fault-in-Err-Refused-clause-read : goal.returns-in_ok-first_fault-in-Err-Refused-clause-read
returns-in_ok-first_fault-in-Err-Refused-clause-read c bytes h =
    first_shows (bytes ++ c.args.byte ∷ []) h.told c.args.self.now.events c.take.new.out c.in-Err-Refused.fault c.in_ok-first_fault-in-Err-Refused.field-0 h.none
    (subst (Stops (bytes ++ c.args.byte ∷ []) h.told c.args.self.now.events c.take.new.out) c.in-Err-Refused.field-0-is (c.in-Err-Refused.ensures.err _ bytes h.told h.given))
    (c.in_ok-first_fault-in-Err-Refused.ensures h.told h.loaded)
