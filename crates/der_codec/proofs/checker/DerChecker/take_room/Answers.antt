use Rattle.std.proofs.Common.{refl}
use Rattle.der_codec.proofs.Keeping.{keeping_as}
use Rattle.der_codec.proofs.checker.DerChecker.take_room.Goals as goal

pub returns-clause-keeps : goal.returns-clause-keeps
returns-clause-keeps c = λ k. keeping_as c.args.model.now c.args.self.now _ refl c.widen_to.ensures.room c.widen_to-2.ensures.room c.reserve.ensures.room c.widen.ensures.grows k
