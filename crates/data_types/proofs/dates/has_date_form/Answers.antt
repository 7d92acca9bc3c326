use Rattle.std.proofs.Common.{codes, sym, subst, arith}
use Rattle.data_types.specs.Dates.{HasForm}
use Rattle.data_types.proofs.DateLemmas.{neither, neither_by, form_long, forms_joined, forms_parted}
use Rattle.data_types.proofs.dates.has_date_form.Goals as goal

pub returns : goal.returns
returns c =
    let text = c.args.text.now in
    let front = codes "dddd-dd-" in
    let behind = codes "dd" in (
      λ e. forms_joined front behind text c.if-text-lt8.false (subst (HasForm front) c.split_at.ensures.front (c.has_month_form.ensures.0 c.if-not-has_month_form.false))
          (subst (HasForm behind) c.split_at.ensures.back (c.has_day_form.ensures.0 e)),
      λ form. c.has_day_form.ensures.1 (subst (HasForm behind) (sym c.split_at.ensures.back) (forms_parted front behind text form).2),
    )

pub returns-then-not-has_month_form : goal.returns-then-not-has_month_form
returns-then-not-has_month_form c =
    let front = codes "dddd-dd-" in
    neither_by c.has_month_form.ensures c.if-not-has_month_form.true
    (λ form. subst (HasForm front) (sym c.split_at.ensures.front) (forms_parted front (codes "dd") c.args.text.now form).1)

pub returns-then-text-lt8 : goal.returns-then-text-lt8
returns-then-text-lt8 c = neither (form_long (codes "dddd-dd-dd") c.args.text.now 8 (omega arith) c.if-text-lt8.true)
