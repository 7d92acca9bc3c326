use Rattle.std.proofs.Common.{◌≤◌, ◌^◌, take, sym, ap, subst, ◌∙◌}
use Rattle.std.specs.Str.Parse.{digits_value}
use Rattle.lexical_core.specs.Exponents.{AreRealEnds}
use Rattle.lexical_core.proofs.RealLemmas.{IfNone-map, real_value, value_too_great_for, exponent_small, read_number}
use Rattle.lexical_core.proofs.real.read_body.Goals as goal

pub returns-then-not-has_real_ends-clause-none : goal.returns-then-not-has_real_ends-clause-none
returns-then-not-has_real_ends-clause-none c = λ n d body.
    let real = real_value c.digit_count.result c.args.body.now c.args.negative n c.digit_count.ensures.digits c.digit_count.ensures.rest body in
    let is = c.has_real_ends.ensures.1 (subst AreRealEnds (sym c.split_at.ensures.front) real.3) in
    cc

pub returns-in_default-clause-none : goal.returns-in_default-clause-none
returns-in_default-clause-none c = λ n d body.
    let real = real_value c.digit_count.result c.args.body.now c.args.negative n c.digit_count.ensures.digits c.digit_count.ensures.rest body in
    value_too_great_for c.args.negative (digits_value 10 (take c.digit_count.result c.args.body.now)) real.0 n d real.1 real.4
    (subst (λ x. 10 ^ 18 ≤ digits_value 10 x) c.split_at.ensures.front c.in_default.ensures.none)

pub returns-in_default-exponent_of-clause-none : goal.returns-in_default-exponent_of-clause-none
returns-in_default-exponent_of-clause-none c = λ n d body.
    let real = real_value c.digit_count.result c.args.body.now c.args.negative n c.digit_count.ensures.digits c.digit_count.ensures.rest body in
    c.in_default-exponent_of.ensures.none real.0
    (exponent_small c.args.negative (digits_value 10 (take c.digit_count.result c.args.body.now)) real.0 n d real.1 real.4)
    (c.split_at.ensures.back ∙ real.2)

pub returns-clause-none : goal.returns-clause-none
returns-clause-none c =
    IfNone-map c.decimal_of.result _ _
    (λ none n d body. none n d (read_number c.digit_count.result c.args.body.now c.args.negative n c.in-Some.value c.in-Some-exponent_of.exponent
    c.digit_count.ensures.digits c.digit_count.ensures.rest (c.in-Some.ensures.some.0 ∙ ap (digits_value 10) c.split_at.ensures.front)
    (sym c.split_at.ensures.back ∙ c.in-Some-exponent_of.ensures.some.0) c.in-Some-exponent_of.ensures.some.1 d body))
    c.decimal_of.ensures.none
