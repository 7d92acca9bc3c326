use Rattle.std.proofs.Common.{◌≡◌, refl}
use Rattle.der_model.specs.DerMessage.{der_message}
use Rattle.der_codec.proofs.Fed.{over_front}
use Rattle.der_codec.specs.declared.decoder.Stop.TheVariants as stop
use Rattle.der_codec.proofs.checker.DerChecker.take_front.Goals as goal

pub returns-in-Over-clause-front : goal.returns-in-Over-clause-front
returns-in-Over-clause-front c =
    over_front c.args.model.now c.args.self.now c.args.self.now c.args.piece.now c.trailing.result c.requires.some refl
    (λ bytes octet r. c.trailing.ensures.stopped (der_message c.args.model.now) bytes octet r) c.trailing.ensures.stays

pub returns-in-Over-clause-memory : goal.returns-in-Over-clause-memory
returns-in-Over-clause-memory c = λ bytes h e is.
    let same : c.trailing.result ≡ stop.Memory = cc in
    c.trailing.ensures.memory same
