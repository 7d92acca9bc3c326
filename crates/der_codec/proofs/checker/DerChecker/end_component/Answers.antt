use Rattle.std.proofs.Common.{refl, arith}
use Rattle.der_model.specs.DerMessage.{der_message}
use Rattle.der_codec.specs.KeptPieces.{around_of}
use Rattle.der_codec.specs.Levels.{inwards}
use Rattle.der_codec.proofs.ShownSteps.{levels_open}
use Rattle.der_codec.proofs.Keeping.{keeping_as}
use Rattle.der_codec.proofs.checker.DerChecker.end_component.Goals as goal

pub returns-in-Ok-clause-shown : goal.returns-in-Ok-clause-shown
returns-in-Ok-clause-shown c = λ bytes r around.
    let d = c.args.self.now.decoder in
    let xs = inwards d.levels.items in
    c.in-Ok.ensures.ended (around_of r.state) (levels_open (der_message c.args.model.now) xs d.due r.state r.is_open) around

pub returns-in-Ok-clause-keeps : goal.returns-in-Ok-clause-keeps
returns-in-Ok-clause-keeps c = λ k. keeping_as c.args.model.now c.args.self.now _ refl (omega arith) (omega arith) (λ bytes h. h) c.end.ensures.room k

pub returns-in-Err-clause-keeps : goal.returns-in-Err-clause-keeps
returns-in-Err-clause-keeps c = λ k. keeping_as c.args.model.now c.args.self.now _ refl (omega arith) (omega arith) (λ bytes h. h) c.end.ensures.room k

pub returns-in-Err-clause-within : goal.returns-in-Err-clause-within
returns-in-Err-clause-within c = λ bytes r hold.
    let d = c.args.self.now.decoder in
    let xs = inwards d.levels.items in
    c.in-Err.ensures.within (around_of r.state) (levels_open (der_message c.args.model.now) xs d.due r.state r.is_open) hold
