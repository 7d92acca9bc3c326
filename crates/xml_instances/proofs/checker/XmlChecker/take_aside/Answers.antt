use Rattle.std.proofs.Common.{◌<◌, refl, arith}
use Rattle.xml_instances.proofs.AsideFed.{front_aside}
use Rattle.xml_instances.proofs.QuickFed.{front_still}
use Rattle.xml_instances.proofs.checker.XmlChecker.take_aside.Goals as goal

pub returns-then-count-eq0-clause-front : goal.returns-then-count-eq0-clause-front
returns-then-count-eq0-clause-front c = front_still c.args.model.now c.args.self.now _ c.args.piece.now (c.take_aside-count.ensures.none c.if-count-eq0.true) refl refl refl refl

pub returns-clause-front : goal.returns-clause-front
returns-clause-front c =
    let some : 0 < c.take_aside-count.result = (let k = c.if-count-eq0.false in omega (arith, k)) in
    front_aside c.args.model.now c.args.self.now _ c.args.piece.now c.take_aside-count.result c.take_aside-count.ensures.within c.requires.room (λ bytes told h. c.take_aside-count.ensures.taken _ bytes told h some) c.take_aside-count.ensures.count c.saturating_add-self.ensures refl refl refl
