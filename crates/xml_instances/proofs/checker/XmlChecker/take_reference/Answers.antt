use Rattle.std.proofs.Common.{refl}
use Rattle.xml_instances.proofs.QuickFed.{front_still}
use Rattle.xml_instances.proofs.ReferenceFed.{front_reference, front_reference_stops}
use Rattle.xml_instances.proofs.checker.XmlChecker.take_reference.Goals as goal

pub returns-in-None-clause-front : goal.returns-in-None-clause-front
returns-in-None-clause-front c = front_still c.args.model.now c.args.self.now _ c.args.piece.now (c.in-None.ensures.none refl) refl refl refl refl

pub returns-in-Ok-clause-front : goal.returns-in-Ok-clause-front
returns-in-Ok-clause-front c =
    front_reference c.args.model.now c.args.self.now _ c.args.piece.now c.in-Some.found.character c.in-Some.found.bytes c.in-Some.ensures.within.1 c.requires.room (c.in-Some.ensures.taken _) c.in-Some.ensures.count
    c.saturating_add-self.ensures refl refl c.in-Ok.ensures.taken c.in-Ok.ensures.shown

pub returns-in-Err-clause-front : goal.returns-in-Err-clause-front
returns-in-Err-clause-front c =
    front_reference_stops c.args.model.now c.args.self.now _ c.args.piece.now c.in-Some.found.character c.in-Some.found.bytes c.in-Err.refusal c.told.result c.events_stay.ensures (c.in-Some.ensures.taken _) c.in-Err.ensures.taken c.told.ensures
