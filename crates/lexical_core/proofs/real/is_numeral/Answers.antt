use Rattle.std.proofs.Common.{arith}
use Rattle.std.proofs.lemmas.Bool.{eq-eqb, eqb-true}
use Rattle.std.proofs.lemmas.Bool.Decides.{nat_tests}
use Rattle.lexical_core.proofs.Numerals.{numeral_from_count, count_of_numeral}
use Rattle.lexical_core.proofs.real.is_numeral.Goals as goal

pub returns : goal.returns
returns c = (
  λ e. numeral_from_count c.args.digits.now c.digit_count.result 0 (eqb-true _ _ e) c.digit_count.ensures.digits (grind (arith, nat_tests)) c.if-digits-eq48.false,
  λ n. eq-eqb _ _ (count_of_numeral c.args.digits.now c.digit_count.result c.digit_count.ensures.bound c.digit_count.ensures.rest n),
)
