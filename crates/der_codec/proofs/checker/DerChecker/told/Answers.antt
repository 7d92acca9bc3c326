use Rattle.std.proofs.Common.{subst}
use Rattle.fragments.specs.Fragment.{fragment}
use Rattle.der_model.specs.DerMessage.{der_message}
use Rattle.der_codec.specs.Checking.{StopsWithin}
use Rattle.der_codec.specs.Decoding.{IsStopped}
use Rattle.der_codec.proofs.Fed.{stop_told, end_told}
use Rattle.der_codec.proofs.checker.DerChecker.told.Goals as goal

pub returns-in-Ok-clause-within : goal.returns-in-Ok-clause-within
returns-in-Ok-clause-within c = λ bytes h.
    let d = c.args.self.now.decoder in
    stop_told c.args.model.now d bytes c.in-Fault.rule c.in-Fault.place c.in-Fault.added c.in-Ok.path (λ s op named. c.in-Ok.ensures fragment s op named) (subst (λ z. StopsWithin c.args.model.now d bytes z) c.in-Fault.is h)

pub returns-in-Ok-clause-end : goal.returns-in-Ok-clause-end
returns-in-Ok-clause-end c = λ bytes h.
    let d = c.args.self.now.decoder in
    end_told c.args.model.now d bytes c.in-Fault.rule c.in-Fault.place c.in-Fault.added c.in-Ok.path (λ s op named. c.in-Ok.ensures fragment s op named) (subst (λ z. IsStopped (der_message c.args.model.now) d bytes z) c.in-Fault.is h)
