use Rattle.std.proofs.Common.{◌-◌, refl, arith}
use Rattle.lexical_core.specs.declared.decimal_text.Stage.TheVariants.{Fraction}
use Rattle.lexical_core.proofs.DecimalTexts.{fraction_digit, HasRead-from, HasReadIn-from}
use Rattle.lexical_core.proofs.decimal_text.DecimalStep.push_fraction_digit.Goals as goal

pub returns-clause-read : goal.returns-clause-read
returns-clause-read c = λ text h.
    let old = c.args.self.now in
    let own = HasReadIn-from Fraction old text c.requires.stage h in
    let low = c.requires.digit.0 in
    let high = c.requires.digit.1 in
    HasRead-from Fraction _ _ c.requires.stage
    (fraction_digit old _ text c.args.code (c.args.code - 48) own (omega (arith, low, high)) (omega (arith, low, high)) refl c.push_fraction.ensures.some c.push_fraction.ensures.number)
