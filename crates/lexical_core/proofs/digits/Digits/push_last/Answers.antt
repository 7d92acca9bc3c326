use Rattle.std.proofs.Common.{refl, inl, inr}
use Rattle.lexical_core.proofs.DigitLemmas.{last_fits, last_long}
use Rattle.lexical_core.proofs.digits.Digits.push_last.Goals as goal

pub returns-then-self-zeros-ge18-clause-number : goal.returns-then-self-zeros-ge18-clause-number
returns-then-self-zeros-ge18-clause-number c =
    λ value count h. last_long c.args.self.now _ c.args.digit value count c.requires.some c.requires.digit h (inl c.if-self-zeros-ge18.true) refl refl

pub returns-in-Some-clause-number : goal.returns-in-Some-clause-number
returns-in-Some-clause-number c =
    λ value count h. last_fits c.args.self.now _ c.args.digit value count c.requires.some c.requires.digit h c.if-self-zeros-ge18.false refl refl refl
    c.in-Some.ensures.some.0

pub returns-in-None-clause-number : goal.returns-in-None-clause-number
returns-in-None-clause-number c =
    λ value count h. last_long c.args.self.now _ c.args.digit value count c.requires.some c.requires.digit h (inr (c.if-self-zeros-ge18.false, c.in-None.ensures.none))
    refl refl
