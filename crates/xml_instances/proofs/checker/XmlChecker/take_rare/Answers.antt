use Rattle.std.proofs.Common.{◌≡◌, arith}
use Rattle.xml_instances.proofs.QuickFed.{front_then}
use Rattle.xml_instances.proofs.checker.XmlChecker.take_rare.Goals as goal

pub returns-clause-front : goal.returns-clause-front
returns-clause-front c =
    let a : c.in-Ok.whole ≡ 0 = (let h = c.if-whole-gt0.false in omega (arith, h)) in
    front_then c.args.model.now c.args.self.now c.take_whole.new.self c.take_slowly.new.self c.args.piece.now c.in-Ok.whole c.take_slowly.result c.in-Ok.ensures.front a c.take_slowly.ensures.front
