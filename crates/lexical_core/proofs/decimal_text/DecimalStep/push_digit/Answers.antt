use Rattle.std.proofs.Common.{◌-◌, refl, arith}
use Rattle.lexical_core.specs.declared.decimal_text.Stage.TheVariants.{Whole}
use Rattle.lexical_core.proofs.DecimalTexts.{whole_digit, HasRead-from, HasReadIn-from}
use Rattle.lexical_core.proofs.decimal_text.DecimalStep.push_digit.Goals as goal

pub returns-clause-read : goal.returns-clause-read
returns-clause-read c = λ text h.
    let old = c.args.self.now in
    let own = HasReadIn-from Whole old text c.requires.stage h in
    let low = c.requires.digit.0 in
    let high = c.requires.digit.1 in
    HasRead-from Whole _ _ c.requires.stage
    (whole_digit old _ text c.args.code (c.args.code - 48) own.0 (omega (arith, low, high)) (omega (arith, low, high)) refl c.push_whole.ensures.some c.push_whole.ensures.number)
