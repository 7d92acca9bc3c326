use Rattle.std.proofs.Common.{refl}
use Rattle.xml_instances.proofs.QuickFed.{front_still}
use Rattle.xml_instances.proofs.checker.XmlChecker.take_whole.Goals as goal

pub returns-in_default-clause-front : goal.returns-in_default-clause-front
returns-in_default-clause-front c = front_still c.args.model.now c.args.self.now _ c.args.piece.now refl refl refl refl refl
