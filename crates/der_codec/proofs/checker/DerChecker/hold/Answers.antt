use Rattle.std.proofs.Common.{refl}
use Rattle.message_model.specs.Tables.{types_of}
use Rattle.der_codec.proofs.Keeping.{keeping_as, levels_same, checks_same, grows_as}
use Rattle.der_codec.proofs.checker.DerChecker.hold.Goals as goal

pub returns-then-is_some-clause-keeps : goal.returns-then-is_some-clause-keeps
returns-then-is_some-clause-keeps c = λ k.
    let s = c.args.self.now in
    let new = c.hold_octets.new.self in
    let h = c.hold_octets.ensures in
    keeping_as c.args.model.now s new h.same (levels_same s.decoder new.decoder new.decoder h.decoder refl) h.room (λ bytes k. checks_same (types_of c.args.model.now) bytes s.checks new.checks h.checks k) (grows_as s.pieces new.pieces h.pieces) k
