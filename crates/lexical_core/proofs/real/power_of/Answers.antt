use Rattle.std.proofs.Common.{◌≡◌, arith, sym, ap, subst, ◌∙◌}
use Rattle.std.specs.Str.Parse.{digits_value}
use Rattle.std.specs.Fmt.{decimal}
use Rattle.lexical_core.specs.Exponents.{IsPositiveNumeral}
use Rattle.lexical_core.proofs.Numerals.{decimal_is_numeral, numeral_is_decimal, numeral_some}
use Rattle.lexical_core.proofs.real.power_of.Goals as goal

pub returns-then-not-is_numeral-clause-none : goal.returns-then-not-is_numeral-clause-none
returns-then-not-is_numeral-clause-none c = λ n some most e.
    let is = subst IsPositiveNumeral (sym e) (decimal_is_numeral n some (omega arith)).0 in
    let t = c.is_numeral.ensures.1 is in cc

pub returns-in-Some-clause-some : goal.returns-in-Some-clause-some
returns-in-Some-clause-some c =
    let is = c.is_numeral.ensures.0 c.if-not-is_numeral.false in
    let read = c.in-Some.ensures.some.0 in (
      numeral_some c.args.digits.now c.in-Some.value is read,
      c.if-value-le18.true,
      numeral_is_decimal c.args.digits.now is (omega arith) ∙ ap decimal (sym read),
    )

pub returns-in_default-clause-none : goal.returns-in_default-clause-none
returns-in_default-clause-none c = λ n some most e.
    let value = (decimal_is_numeral n some (omega arith)).1 in
    let same : digits_value 10 c.args.digits.now ≡ digits_value 10 (decimal n) = ap (digits_value 10) e in
    let read = c.in-Some.ensures.some.0 in
    omega arith

pub returns-in_default-2-clause-none : goal.returns-in_default-2-clause-none
returns-in_default-2-clause-none c = λ n some most e.
    let value = (decimal_is_numeral n some (omega arith)).1 in
    let same : digits_value 10 c.args.digits.now ≡ digits_value 10 (decimal n) = ap (digits_value 10) e in
    let great = c.in_default.ensures.none in
    omega arith
