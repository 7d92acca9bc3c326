use Rattle.lexical_core.proofs.DigitLemmas.{number_is, too_long_number}
use Rattle.lexical_core.proofs.decimal_text.number_of.Goals as goal

pub returns-then-digits : goal.returns-then-digits
returns-then-digits c = λ value count h. (c.if-not-digits.false, too_long_number c.args.digits.now value count h c.if-digits.true)

pub returns-else-digits : goal.returns-else-digits
returns-else-digits c = λ value count h. (c.if-not-digits.false, c.of.ensures.decimal, number_is c.args.digits.now _ value count _ h c.if-digits.false c.of.ensures.number)
