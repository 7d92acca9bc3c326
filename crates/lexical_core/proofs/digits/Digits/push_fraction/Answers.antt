use Rattle.std.proofs.Common.{refl}
use Rattle.lexical_core.proofs.DigitLemmas.{zero_after}
use Rattle.lexical_core.proofs.digits.Digits.push_fraction.Goals as goal

pub returns-then-digit-eq0-clause-number : goal.returns-then-digit-eq0-clause-number
returns-then-digit-eq0-clause-number c =
    λ value count h. zero_after c.args.self.now _ c.args.digit value count c.if-digit-eq0.true h c.min-self.ensures refl refl refl
