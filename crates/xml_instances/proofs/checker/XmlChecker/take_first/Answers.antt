use Rattle.std.proofs.Common.{rules, ◌≡◌, ◌∷◌}
use Rattle.xml_instances.proofs.QuickFed.{front_byte, front_byte_stops}
use Rattle.xml_instances.proofs.checker.XmlChecker.take_first.Goals as goal

pub returns-in-Ok-clause-front : goal.returns-in-Ok-clause-front
returns-in-Ok-clause-front c =
    let e : c.args.piece.now ≡ c.in-Some.byte.now ∷ c.in-Some._behind.now = search rules in
    front_byte c.args.model.now c.args.self.now c.take.new.self c.args.piece.now c.in-Some._behind.now c.in-Some.byte.now e c.in-Ok.ensures.ok c.in-Ok.ensures.count

pub returns-in-Err-clause-front : goal.returns-in-Err-clause-front
returns-in-Err-clause-front c =
    let e : c.args.piece.now ≡ c.in-Some.byte.now ∷ c.in-Some._behind.now = search rules in
    front_byte_stops c.args.model.now c.args.self.now c.take.new.self c.args.piece.now c.in-Some._behind.now c.in-Some.byte.now c.in-Err.error e c.in-Err.ensures.err
