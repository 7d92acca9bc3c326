use Rattle.std.proofs.Common.{refl, sym, ◌∙◌}
use Rattle.lexical_core.specs.declared.decimal_text.Stage.TheVariants.{Fraction}
use Rattle.lexical_core.proofs.DecimalTexts.{fraction_digit, no_more_fraction, no_digit, HasRead-from}
use Rattle.lexical_core.proofs.decimal_text.DecimalStep.take_fraction.Goals as goal

pub returns-then-is_ascii_digit : goal.returns-then-is_ascii_digit
returns-then-is_ascii_digit c =
    λ text w. HasRead-from Fraction _ _ c.requires
    (fraction_digit c.args.self.now _ text c.args.c c.digit_of.result w c.digit_of.ensures.code c.digit_of.ensures.digit refl c.push_fraction.ensures.some
    c.push_fraction.ensures.number)

pub returns-else-is_ascii_digit : goal.returns-else-is_ascii_digit
returns-else-is_ascii_digit c =
    λ text w. no_more_fraction c.args.self.now text c.args.c w (no_digit c.args.c (sym c.is_ascii_digit.ensures.value ∙ c.if-is_ascii_digit.false))
