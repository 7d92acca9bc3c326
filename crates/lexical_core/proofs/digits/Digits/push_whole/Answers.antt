use Rattle.std.proofs.Common.{refl}
use Rattle.lexical_core.proofs.DigitLemmas.{whole_fits, whole_long}
use Rattle.lexical_core.proofs.digits.Digits.push_whole.Goals as goal

pub returns-in-Some-clause-number : goal.returns-in-Some-clause-number
returns-in-Some-clause-number c = λ value h. whole_fits c.args.self.now _ c.args.digit value h refl refl refl c.in-Some.ensures.some.0

pub returns-in-None-clause-number : goal.returns-in-None-clause-number
returns-in-None-clause-number c = λ value h. whole_long c.args.self.now _ c.args.digit value h refl refl c.in-None.ensures.none
