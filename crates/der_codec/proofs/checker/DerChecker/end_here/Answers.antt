use Rattle.std.proofs.Common.{refl}
use Rattle.der_model.specs.DerMessage.{der_message}
use Rattle.der_codec.specs.Decoding.{end_of_levels}
use Rattle.der_codec.proofs.Fed.{ready_reading}
use Rattle.der_codec.proofs.Nested.{ready_below}
use Rattle.der_codec.proofs.checker.DerChecker.end_here.Goals as goal

pub returns-then-not-ends_here-clause-ok : goal.returns-then-not-ends_here-clause-ok
returns-then-not-ends_here-clause-ok c = λ bytes r shows.
    let s = c.args.self.now in
    let d = s.decoder in
    let low = c.if-not-ends_here.ensures.no refl (der_message c.args.model.now) bytes r c.requires.fresh in
    ready_reading c.args.model.now d s.kept s.pieces bytes r shows (ready_below d.due d.place (end_of_levels d.levels.items) c.requires.fresh low) c.requires.kept
