use Rattle.std.proofs.Common.{refl, sym, ◌∙◌}
use Rattle.lexical_core.proofs.DecimalTexts.{whole_digit, no_more_whole, no_digit}
use Rattle.lexical_core.proofs.decimal_text.DecimalStep.take_whole.Goals as goal

pub returns-then-is_ascii_digit : goal.returns-then-is_ascii_digit
returns-then-is_ascii_digit c =
    λ text w no_sign. whole_digit c.args.self.now _ text c.args.c c.digit_of.result w c.digit_of.ensures.code c.digit_of.ensures.digit refl c.push_whole.ensures.some
    c.push_whole.ensures.number

pub returns-else-c-eq46 : goal.returns-else-c-eq46
returns-else-c-eq46 c =
    λ text w no_sign. no_more_whole c.args.self.now text c.args.c w (no_digit c.args.c (sym c.is_ascii_digit.ensures.value ∙ c.if-is_ascii_digit.false)) c.if-c-eq46.false
    no_sign
