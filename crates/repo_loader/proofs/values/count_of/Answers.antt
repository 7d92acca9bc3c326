-- Ten digits fit.
use Rattle.std.proofs.Common.{◌≡◌, ◌+◌, ◌*◌, ◌^◌, ◌≤◌, ◌∷◌, length, sym, ap, ◌∙◌, subst, arith, rules}
use Rattle.std.specs.Prelude.{◌&&◌}
use Rattle.std.specs.Str.{all_ascii_digits}
use Rattle.std.specs.Str.Parse.{digits_value_after}
use Rattle.repo_loader.proofs.CountLemmas.{one_digit, fits_digits, digit_at_test}
use Rattle.repo_loader.proofs.values.count_of.Goals as goal

pub overflow_mul-value : goal.overflow_mul-value
overflow_mul-value c =
    let v = c.loop-first.value in
    let small = fits_digits 10 v (length c.loop-first.rest.now) c.loop-first.invariant.bound in
    omega (arith, small)

pub overflow_add-value : goal.overflow_add-value
overflow_add-value c =
    let v = c.loop-first.value in
    let small = fits_digits 10 v (length c.loop-first.rest.now) c.loop-first.invariant.bound in
    omega (arith, small)

pub loop-first-preserved : goal.loop-first-preserved
loop-first-preserved c =
    let inv = c.loop-first.invariant in
    let cut : c.loop-first.rest.now ≡ c.in-Some.first.now ∷ c.in-Some.more.now = search rules in
    let d = digit_at_test c.in-Some.first.now c.from.result (sym c.is_ascii_digit.ensures.value ∙ c.if-not-is_ascii_digit.false) c.from.ensures in
    record {
      bound = one_digit 10 c.loop-first.value c.from.result (length c.in-Some.more.now) (subst (λ xs. (c.loop-first.value + 1) * 10 ^ length xs ≤ 10 ^ 10) cut inv.bound) d.0;
      value = ap (λ n. digits_value_after 10 (c.loop-first.value * 10 + n) c.in-Some.more.now) d.1 ∙ sym (ap (digits_value_after 10 c.loop-first.value) cut) ∙ inv.value;
      digits = sym (ap (λ b. b && all_ascii_digits c.in-Some.more.now) (sym c.is_ascii_digit.ensures.value ∙ c.if-not-is_ascii_digit.false)) ∙ sym (ap all_ascii_digits cut) ∙ inv.digits;
      some = inv.some;
      few = inv.few;
    }
