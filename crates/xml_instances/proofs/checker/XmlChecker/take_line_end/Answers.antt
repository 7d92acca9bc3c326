use Rattle.std.proofs.Common.{arith, ap, length, refl}
use Rattle.xml_instances.proofs.QuickFed.{front_still}
use Rattle.xml_instances.proofs.ReferenceFed.{front_reference, front_reference_stops}
use Rattle.xml_instances.proofs.checker.XmlChecker.take_line_end.Goals as goal

pub returns-then-not-take_line_end-clause-front : goal.returns-then-not-take_line_end-clause-front
returns-then-not-take_line_end-clause-front c = front_still c.args.model.now c.args.self.now _ c.args.piece.now (c.take_line_end.ensures.none c.if-not-take_line_end.true) refl refl refl refl

pub returns-in-Ok-clause-front : goal.returns-in-Ok-clause-front
returns-in-Ok-clause-front c =
    let here = c.if-not-take_line_end.false in
    let o = c.take_line_end.ensures.only here in
    front_reference c.args.model.now c.args.self.now _ c.args.piece.now 10 2 (omega (arith, ap length o.1)) c.requires.room (λ bytes told h. c.take_line_end.ensures.taken _ bytes told h here) (c.take_line_end.ensures.count here)
    c.saturating_add-self.ensures refl refl c.in-Ok.ensures.taken c.in-Ok.ensures.shown

pub returns-in-Err-clause-front : goal.returns-in-Err-clause-front
returns-in-Err-clause-front c =
    let here = c.if-not-take_line_end.false in
    front_reference_stops c.args.model.now c.args.self.now _ c.args.piece.now 10 2 c.in-Err.refusal c.told.result c.events_stay.ensures (λ bytes told h. c.take_line_end.ensures.taken _ bytes told h here) c.in-Err.ensures.taken c.told.ensures
