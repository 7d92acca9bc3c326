use Rattle.std.proofs.Common.{◌≡◌, arith}
use Rattle.xml_instances.proofs.QuickFed.{front_then}
use Rattle.xml_instances.proofs.checker.XmlChecker.take_slowly.Goals as goal

pub returns-clause-front : goal.returns-clause-front
returns-clause-front c =
    let a : c.in-Ok.inside ≡ 0 = (let h = c.if-inside-gt0.false in omega (arith, h)) in
    front_then c.args.model.now c.args.self.now c.take_inside.new.self c.take_first.new.self c.args.piece.now c.in-Ok.inside c.take_first.result c.in-Ok.ensures.front a c.take_first.ensures.front
