use Rattle.std.proofs.Common.{refl}
use Rattle.xml_instances.proofs.QuickFed.{front_still}
use Rattle.xml_instances.proofs.checker.XmlChecker.take_often.Goals as goal

pub returns-in-38-clause-front : goal.returns-in-38-clause-front
returns-in-38-clause-front c = front_still c.args.model.now c.args.self.now _ c.args.piece.now refl refl refl refl refl
