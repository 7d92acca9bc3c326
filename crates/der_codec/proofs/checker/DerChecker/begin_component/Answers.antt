use Rattle.std.proofs.Common.{refl, arith, subst}
use Rattle.der_model.specs.DerMessage.{der_message}
use Rattle.der_codec.proofs.Keeping.{keeping_as}
use Rattle.der_codec.proofs.RoomSteps.{begun_levels}
use Rattle.der_codec.specs.Decoding.{IsOpenState}
use Rattle.der_codec.specs.Levels.{inwards}
use Rattle.der_codec.specs.Reserved.{HoldMore}
use Rattle.der_codec.proofs.checker.DerChecker.begin_component.Goals as goal

pub returns-in-Ok-clause-keeps : goal.returns-in-Ok-clause-keeps
returns-in-Ok-clause-keeps c = λ k. keeping_as c.args.model.now c.args.self.now _ refl (omega arith) (omega arith) (λ bytes h. h) c.begin.ensures.room k

pub returns-in-Err-clause-keeps : goal.returns-in-Err-clause-keeps
returns-in-Err-clause-keeps c = λ k. keeping_as c.args.model.now c.args.self.now _ refl (omega arith) (omega arith) (λ bytes h. h) c.begin.ensures.room k

pub returns-in-Err-clause-within : goal.returns-in-Err-clause-within
returns-in-Err-clause-within c = λ state op hold.
    let m = der_message c.args.model.now in
    let d = c.args.self.now.decoder in
    let xs = inwards d.levels.items in
    let told = begun_levels m xs c.in-Length.constructed c.in-Length.spot c.in-Length.step state (subst (λ z. IsOpenState m xs z state) c.in-Length.is op) in
    c.in-Err.ensures.within told.0 told.1 (subst (HoldMore c.args.self.now.pieces) told.2 hold)
