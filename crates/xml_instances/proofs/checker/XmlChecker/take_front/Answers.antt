use Rattle.std.proofs.Common.{◌≡◌, arith}
use Rattle.xml_instances.specs.inner.Fronts.{because}
use Rattle.xml_instances.proofs.QuickFed.{front_then}
use Rattle.xml_instances.proofs.checker.XmlChecker.take_front.Goals as goal

pub returns-clause-front : goal.returns-clause-front
returns-clause-front c =
    let a : c.in-Ok.often ≡ 0 = (let h = c.if-often-gt0.false in omega (arith, h)) in
    front_then c.args.model.now c.args.self.now c.take_often.new.self c.take_otherwise.new.self c.args.piece.now c.in-Ok.often (because c.take_otherwise.new.stop c.take_otherwise.result) c.in-Ok.ensures.front a c.take_otherwise.ensures.front
