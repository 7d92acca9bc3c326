use Rattle.std.proofs.Common.{◌<◌, refl, arith}
use Rattle.xml_instances.proofs.QuickFed.{front_inside, front_still}
use Rattle.xml_instances.proofs.checker.XmlChecker.take_inside.Goals as goal

pub returns-then-count-eq0-clause-front : goal.returns-then-count-eq0-clause-front
returns-then-count-eq0-clause-front c = front_still c.args.model.now c.args.self.now _ c.args.piece.now (c.in-Ok.ensures.none c.if-count-eq0.true) refl refl refl refl

pub returns-clause-front : goal.returns-clause-front
returns-clause-front c =
    let some : 0 < c.in-Ok.count = (let k = c.if-count-eq0.false in omega (arith, k)) in
    front_inside c.args.model.now c.args.self.now _ c.args.piece.now c.in-Ok.count c.in-Ok.ensures.within c.requires.room (λ bytes told h. c.in-Ok.ensures.taken _ bytes told h some) c.in-Ok.ensures.count c.saturating_add-self.ensures refl refl refl
